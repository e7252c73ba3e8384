-- The law of what is shown of a record
use Rattle.std.specs.Prelude.{◌≡◌, ℕ, List}
use Rattle.zone_spec.specs.declared.Zone.{Zone}
use Rattle.zone_spec.specs.RecordsHeld.{RecordHeld}
use Rattle.report_spec.specs.Packed.{RecordShown, IsShown}

abbrev pub OneShown : Type 0
OneShown = (zones : List Zone) (names : List ℕ) (shift : ℕ) (r : RecordHeld) (a b : RecordShown)
    → IsShown zones names shift r a → IsShown zones names shift r b → a ≡ b
