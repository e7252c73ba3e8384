-- The zones of each kind as a run: a place, a size and a number
use Rattle.std.specs.Prelude.{ℕ, ◌+◌, ◌*◌, ◌^◌, ◌<◌, ◌==◌, if◌then◌else◌, List}
use Rattle.psz_spec.specs.declared.Kind.TheVariants.{Pmsg, Console, Ftrace, Dump}
use Rattle.psz_spec.specs.declared.Sizes.{Sizes}
use Rattle.psz_spec.specs.declared.Zone.{Zone}
use Rattle.psz_spec.specs.Layouts.{zones_from, ftrace_each, ftrace_count, ftrace_at, dump_at, dump_count}
use Rattle.psz_read.specs.declared.zones.Run.{Run}

abbrev pub run_zones : Run → List Zone
run_zones run = zones_from run.kind run.size run.count 0 run.at

abbrev pub run_zone : Run → ℕ → Zone
run_zone run index = record { kind = run.kind; index = index; at = run.at + index * run.size; size = run.size }

abbrev pub fits : Run → Type 0
fits run = run.at + run.count * run.size < 2 ^ 32

abbrev pub one_or_none : ℕ → ℕ
one_or_none size = if size == 0 then 0 else 1

abbrev pub pmsg_run : Sizes → Run
pmsg_run s = record { kind = Pmsg; size = s.pmsg; count = one_or_none s.pmsg; at = 0 }

abbrev pub console_run : Sizes → Run
console_run s = record { kind = Console; size = s.console; count = one_or_none s.console; at = s.pmsg }

abbrev pub ftrace_run : Sizes → Run
ftrace_run s = record { kind = Ftrace; size = ftrace_each s; count = ftrace_count s; at = ftrace_at s }

abbrev pub dump_run : Sizes → Run
dump_run s = record { kind = Dump; size = s.dump; count = dump_count s; at = dump_at s }
