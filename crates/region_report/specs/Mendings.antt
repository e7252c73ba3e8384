-- What mends a record, as contracts see it
use Rattle.std.specs.Prelude.{◌≡◌, ℕ, Bool, ◌&&◌, ◌++◌, List, nat_eq}
use Rattle.std.specs.Option.{option_map}
use Rattle.zone_spec.specs.PartStates.{PartStates}
use Rattle.death_spec.specs.declared.Line.{Line}
use Rattle.report_spec.specs.Mending.{Seen, partner, mended_line, line_doubts, mending}
use Rattle.report_spec.specs.Newest.{newest, console_of}
use Rattle.report_spec.specs.Packed.{RecordShown}
use Rattle.region_report.specs.declared.mended.Mendings.{Mendings}
use Rattle.region_report.specs.declared.mending.MendedText.{MendedText}
use Rattle.region_report.specs.declared.same_lines.Seen.{Seen as SeenSlices}

abbrev pub as_seen : SeenSlices → Seen
as_seen s = record { text = s.text.now; doubts = s.doubts.now }

-- how a map tells its keys apart
abbrev pub is_same_key : ℕ × ℕ → ℕ × ℕ → Bool
is_same_key p q = nat_eq p.0 q.0 && nat_eq p.1 q.1

-- one line more of a text
pub record Mends (a b : Seen) (line : Line) (old new : MendedText) : Type 0 where
  pub text : new.text.items ≡ old.text.items ++ mended_line a b line (partner a b line)
  pub doubts : new.doubts.items ≡ old.doubts.items ++ line_doubts a b line (partner a b line)

-- how the console and the newest dump of some records are mended
pub record AreMendings (parts : List PartStates) (records : List RecordShown) (m : Mendings) : Type 0 where
  pub console : m.console ≡ mending parts (console_of records) (newest records)
  pub dump : m.dump ≡ mending parts (newest records) (console_of records)
  pub name : m.name ≡ option_map (λ (dump : RecordShown). dump.name) (newest records)
