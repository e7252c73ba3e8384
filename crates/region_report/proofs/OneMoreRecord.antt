-- One record more is shown
use Rattle.std.proofs.Common.{ℕ, List, [], ◌∷◌, ◌++◌}
use Rattle.zone_spec.specs.declared.Zone.{Zone}
use Rattle.zone_spec.specs.RecordsHeld.{RecordHeld}
use Rattle.report_spec.specs.Packed.{RecordShown, IsShown, AreShownBy}

pub shown-more : (zones : List Zone) (names : List ℕ) (shift : ℕ) (rs : List RecordHeld) (ss : List RecordShown)
    (r : RecordHeld) (s : RecordShown) → AreShownBy zones names shift rs ss → IsShown zones names shift r s
    → AreShownBy zones names shift (rs ++ r ∷ []) (ss ++ s ∷ [])
shown-more zones names shift [] [] r s are is = (is, tt)
shown-more zones names shift [] (t ∷ ts) r s are is = absurd are
shown-more zones names shift (q ∷ qs) [] r s are is = absurd are
shown-more zones names shift (q ∷ qs) (t ∷ ts) r s are is = (are.0, shown-more zones names shift qs ts r s are.1 is)
