-- What lines leave of a shared zone
use Rattle.std.specs.Prelude.{◌≡◌, ℕ, ◌+◌, List, [], Some, None, Result, Ok, Err}
use Rattle.zone_spec.specs.declared.Zone.{Zone}
use Rattle.shared_spec.specs.Histories.{History}
use Rattle.shared_ring.specs.Seen.{SharedSeen, IsLeftBy}
use Rattle.grammar_spec.specs.declared.line.Line.{Line}
use Rattle.script_spec.specs.SharedScripts.{shared_ran}
use Rattle.script_spec.specs.declared.Cause.{Cause}
use Rattle.script_spec.specs.Playing.{LinesEnd}
use Rattle.script_spec.specs.declared.LineStop.TheVariants.{Refused}

-- what is wanted is not refused, and this is left by it
pub record IsLeft (wanted : Result History Cause) (v : SharedSeen) : Type 0 where
  pub history : History
  pub is : wanted ≡ Ok history
  pub left : IsLeftBy history v

-- a zone of an image that was just opened
abbrev pub just_opened : Zone → List ℕ → History
just_opened z image = record { image = image; zone = z; operations = [] }

pub record IsOpened (v : SharedSeen) : Type 0 where
  pub zone : Zone
  pub image : List ℕ
  pub left : IsLeftBy (just_opened zone image) v

-- all lines were done, and leave this
pub record PlaysAll (z : Zone) (image : List ℕ) (lines : List Line) (v : SharedSeen) : Type 0 where
  pub none : (shared_ran z image lines).refused ≡ None
  pub left : IsLeftBy (shared_ran z image lines).history v

-- the line of this number was refused, and those before it were done and leave this
pub record StopsAt (z : Zone) (image : List ℕ) (lines : List Line) (v : SharedSeen) (n : ℕ)
    (cause : Cause) : Type 0 where
  pub refused : (shared_ran z image lines).refused ≡ Some cause
  pub count : (shared_ran z image lines).count + 1 ≡ n
  pub left : IsLeftBy (shared_ran z image lines).history v

abbrev pub Plays : Zone → List ℕ → List Line → SharedSeen → LinesEnd → Type 0
Plays z image lines v (Ok u) = PlaysAll z image lines v
Plays z image lines v (Err (Refused n cause)) = StopsAt z image lines v n cause
Plays z image lines v (Err other) = ⊥
