-- The numbers of zones have 32 bits
use Rattle.std.proofs.Common.{◌≡◌, ℕ, zero, suc, ◌<◌, ◌^◌, List, [], ◌∷◌, ◌++◌, subst, sym}
use Rattle.std.specs.Prelude.{Some, slice_get}
use Rattle.zone_spec.specs.declared.Zone.{Zone}
use Rattle.prz_read.specs.Saving.{AreNumbered}

pub numbered_more : (xs : List Zone) (z : Zone) → AreNumbered xs → z.name.index < 2 ^ 32 → AreNumbered (xs ++ z ∷ [])
numbered_more [] z are small zero w at =
    let same : z ≡ w = cc in subst (λ (y : Zone). y.name.index < 2 ^ 32) same small
numbered_more [] z are small (suc k) w at = cc
numbered_more (x ∷ xs) z are small zero w at = are 0 w at
numbered_more (x ∷ xs) z are small (suc k) w at = numbered_more xs z (λ j v h. are (suc j) v h) small k w at
