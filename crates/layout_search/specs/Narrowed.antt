-- An aim at fewer layouts
use Rattle.std.specs.Prelude.{◌≡◌, ◌≤◌, ◌⊎◌, Option}
use Rattle.layout_search.specs.Tried.{HasFew}
use Rattle.layout_search.specs.declared.progress.Aim.{Aim}
use Rattle.layout_search.specs.declared.progress.Best.{Best}

-- the limit is less only if the best so far has no more faults
pub record IsNarrowed (aim : Aim) (best : Option Best) (near : Aim) : Type 0 where
  pub marks_are : near.marks ≡ aim.marks
  pub besides_is : near.besides ≡ aim.besides
  pub below : near.limit ≤ aim.limit
  pub enough : (near.limit ≡ aim.limit) ⊎ HasFew near.limit best
