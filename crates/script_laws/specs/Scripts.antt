-- What holds of every script
use Rattle.std.specs.Prelude.{◌≡◌, ℕ, List, length, take}
use Rattle.zone_spec.specs.declared.Zone.{Zone}
use Rattle.zone_spec.specs.Parts.{AreBytes}
use Rattle.zone_spec.specs.Layouts.{IsLayout}
use Rattle.machine_spec.specs.States.{OffState, Off}
use Rattle.machine_spec.specs.Sound.{IsState}
use Rattle.machine_spec.specs.Headline.{EachOffZone}
use Rattle.machine_laws.specs.Headline.{ReadsAndReports}
use Rattle.grammar_spec.specs.declared.line.Line.{Line}
use Rattle.grammar_spec.specs.Printed.{AllHaveFields}
use Rattle.script_spec.specs.Scripts.{ran}
use Rattle.script_spec.specs.Headline.{ScriptReadsLastWritten}

-- every state of a script is sound
abbrev pub ScriptStatesAreSound : Type 0
ScriptStatesAreSound = (layout : List Zone) (mem : ℕ) (image : List ℕ) (lines : List Line) → IsLayout layout mem
    → length image ≡ mem → AreBytes image → AllHaveFields lines
    → (k : ℕ) → IsState layout mem (ran layout image (take k lines)).session

-- and the headline holds at each of its boots: what each zone reads, and that its cut is reported exactly
abbrev pub ScriptsReadLastWritten : Type 0
ScriptsReadLastWritten = (layout : List Zone) (mem : ℕ) (image : List ℕ) (lines : List Line) → IsLayout layout mem
    → length image ≡ mem → AreBytes image → AllHaveFields lines
    → ScriptReadsLastWritten layout image lines × ((k : ℕ) (off : OffState)
    → (ran layout image (take k lines)).session ≡ Off off → EachOffZone layout off ReadsAndReports)
