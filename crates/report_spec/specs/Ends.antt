-- How a log ends that tells of no death
use Rattle.std.specs.Prelude.{ℕ, nat_eq, if◌then◌else◌, List, [], ◌∷◌, map, codes, Option, Some, None}
use Rattle.std.specs.List.{starts_with}
use Rattle.std.specs.Option.{option_map, option_or}
use Rattle.death_spec.specs.declared.Ended.{Ended}
use Rattle.death_spec.specs.declared.Ending.{Ending}
use Rattle.death_spec.specs.declared.Ending.TheVariants.{Restarted, SwitchedOff, Reset, BrokenOff}
use Rattle.death_spec.specs.Endings.{ending_of}
use Rattle.report_spec.specs.declared.DumpReason.{DumpReason}
use Rattle.report_spec.specs.declared.DumpReason.TheVariants.{Panic, Oops, Emergency, Restart, Halt, PowerOff}
use Rattle.report_spec.specs.declared.DumpReason.TheVariants.{ShutDown}
use Rattle.report_spec.specs.declared.TheConstants.{DUMP_REASONS}
use Rattle.report_spec.specs.Packed.{RecordShown, readable}
use Rattle.report_spec.specs.Newest.{newest, console_of}

-- a record, and how what people read of it ends
pub record EndTold : Type 0 where
  pub teller : RecordShown
  pub ended : Ended

abbrev pub end_by : Option RecordShown → Option EndTold
end_by None = None
end_by (Some r) = option_map (λ (ended : Ended). record { teller = r; ended = ended }) (ending_of (readable r))

-- how the newest dump ends. If there is none, or the kernel says nothing in it, how the console ends
unfoldable pub end_told : List RecordShown → Option EndTold
end_told records = option_or (end_by (newest records)) (end_by (console_of records))

-- the rows of `DUMP_REASONS`
abbrev pub reason_rows : List (DumpReason × List ℕ)
reason_rows = map (λ (row : DumpReason × record { now : List ℕ }). (row.0, row.1.now)) DUMP_REASONS.now

-- the first row whose words a text begins with
unfoldable pub reason_in : List (DumpReason × List ℕ) → List ℕ → Option DumpReason
reason_in [] text = None
reason_in (row ∷ rows) text = if starts_with nat_eq text row.1 then Some row.0 else reason_in rows text

-- why the kernel made a dump, as its head says: `Emergency#1 Part1`
abbrev pub reason_of : List ℕ → Option DumpReason
reason_of text = reason_in reason_rows text

-- ---- in words

-- a dump of a panic or an oops can lack its line, if its zone was too small
abbrev pub dump_words : DumpReason → List ℕ
dump_words Panic = codes "died: of a panic; its line is not in the dump"
dump_words Oops = codes "died: of an oops; its line is not in the dump"
dump_words Emergency = codes "no panic: the kernel was told to restart in an emergency"
dump_words Restart = codes "no panic: the kernel was told to restart"
dump_words Halt = codes "no panic: the kernel was told to halt"
dump_words PowerOff = codes "no panic: the kernel was told to power off"
dump_words ShutDown = codes "no panic: the kernel was told to shut down"

abbrev pub ending_words : Ending → List ℕ
ending_words Restarted = codes "no death: an orderly restart"
ending_words SwitchedOff = codes "no death: switched off or halted in order"
ending_words Reset = codes "no death: restarted by sysrq"
ending_words BrokenOff = codes "no death: the log breaks off; the machine hung, lost power or was reset"

-- the head of a dump says more than its last line
abbrev pub no_death_words : Option DumpReason → Ending → List ℕ
no_death_words None ending = ending_words ending
no_death_words (Some reason) ending = dump_words reason

abbrev pub end_words : EndTold → List ℕ
end_words t = no_death_words (reason_of (readable t.teller)) t.ended.ending
