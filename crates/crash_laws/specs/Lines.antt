-- Which lines of a script leave a dump zone alone
use Rattle.std.specs.Prelude.{◌≡◌, ℕ, Bool, true, false, not, ◌+◌, ◌||◌, nat_lt, nat_le, List, ◌++◌, bytes_eq, take}
use Rattle.std.specs.Prelude.{slice_get, Some}
use Rattle.zone_spec.specs.declared.Zone.{Zone}
use Rattle.zone_spec.specs.declared.Kind.TheVariants.{Dump as DumpKind}
use Rattle.zone_spec.specs.declared.Name.TheVariants.{Dump as DumpName}
use Rattle.zone_spec.specs.Names.{name_text}
use Rattle.zone_spec.specs.Layouts.{is_zone}
use Rattle.machine_spec.specs.States.{Session, Off, Live}
use Rattle.grammar_spec.specs.Fields.{Text}
use Rattle.grammar_spec.specs.declared.line.Line.{Line}
use Rattle.grammar_spec.specs.declared.line.Line.TheVariants.{Write, Dump, BeginWrite, BeginErase, BeginDump, Flip}
use Rattle.grammar_spec.specs.declared.line.Line.TheVariants.{Erase, Crash}
use Rattle.script_spec.specs.Scripts.{ran}

-- whether the next dump goes to another zone; there is none while the machine is off
abbrev pub dumps_elsewhere : Zone → Session → Bool
dumps_elsewhere z (Live live) = not (is_zone (record { kind = DumpKind; index = live.cursor }) z)
dumps_elsewhere z (Off off) = true

-- whether a text names the record of a dump zone, compressed or not
abbrev pub names_dump : Text → Zone → Bool
names_dump text z =
    bytes_eq (name_text (DumpName z.name.index false)) text || bytes_eq (name_text (DumpName z.name.index true)) text

-- whether this byte of the image is not of a zone
abbrev pub is_outside : ℕ → Zone → Bool
is_outside place z = nat_lt place z.at || nat_le (z.at + z.size) place

-- whether a line begins no call in a dump zone, does not erase its record, and flips no byte of it
abbrev pub spares : Zone → Session → Line → Bool
spares z session (Write name bytes) = not (is_zone name z)
spares z session (BeginWrite name bytes) = not (is_zone name z)
spares z session (BeginErase name) = not (is_zone name z)
spares z session (Dump time packed bytes) = dumps_elsewhere z session
spares z session (BeginDump time packed bytes) = dumps_elsewhere z session
spares z session (Crash reason time) = dumps_elsewhere z session
spares z session (Erase text) = not (names_dump text z)
spares z session (Flip place mask) = is_outside place z
spares z session other = true

-- so does each of these lines, in the state that those before it leave
abbrev pub AllSpare : List Zone → List ℕ → Zone → List Line → List Line → Type 0
AllSpare layout image z before lines = (k : ℕ) (line : Line) → slice_get lines k ≡ Some line
    → spares z (ran layout image (before ++ take k lines)).session line ≡ true
