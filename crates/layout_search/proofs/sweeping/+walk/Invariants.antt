-- The candidates with the values so far are settled, and the best so far is sound. For the loop of `walk`, which calls
-- itself with fewer words left.
use Rattle.std.proofs.Common.{◌<◌, ℕ, get_or, length}
use Rattle.layout_search.specs.Levels.{after, levels_from, having}
use Rattle.layout_search.specs.Sights.{AreSeen}
use Rattle.layout_search.specs.Tried.{IsSound, Advances, SettledOver}
use Rattle.layout_search.proofs.sweeping.+walk.Given as goal

-- the candidates so far are settled
abbrev pub invariant-loop-k : goal.invariant-loop-k
invariant-loop-k l = record {
  advances : Advances l.initial.state l.state;
  settled : (j : ℕ) → j < l.k
      → SettledOver l.known l.image l.aim (after l.level) (having l.level l.c (get_or l.list j 0)) l.state;
  sound : IsSound l.known l.image l.aim.besides l.state.best;
  seen : AreSeen l.image l.sights;
}

abbrev pub decreases-walk : goal.decreases-walk
decreases-walk l = length (levels_from l.level)
