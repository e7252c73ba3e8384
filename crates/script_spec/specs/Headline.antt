-- What a script's boots read of what was told
use Rattle.std.specs.Prelude.{◌≡◌, ℕ, List, take}
use Rattle.zone_spec.specs.declared.Zone.{Zone}
use Rattle.machine_spec.specs.States.{OffState, Off}
use Rattle.machine_spec.specs.Headline.{EachOffZone, ReadsLastWritten}
use Rattle.grammar_spec.specs.declared.line.Line.{Line}
use Rattle.script_spec.specs.Scripts.{ran}

-- after each line of a script, if the machine is then off, the next boot reads of each idle zone what it was told, and
-- in a zone whose call a stop cut only touched blocks and the header make a difference
abbrev pub ScriptReadsLastWritten : List Zone → List ℕ → List Line → Type 0
ScriptReadsLastWritten layout image lines = (k : ℕ) (off : OffState)
    → (ran layout image (take k lines)).session ≡ Off off → EachOffZone layout off ReadsLastWritten
