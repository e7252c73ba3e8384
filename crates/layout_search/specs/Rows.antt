-- The rows of a candidate, and what refuses it before its zones are looked at
use Rattle.std.specs.Prelude.{ℕ, ◌^◌, ◌≤◌, ◌/◌, if◌then◌else◌, ◌==◌}
use Rattle.zone_spec.specs.declared.Kind.TheVariants.{Dump, Console, Ftrace, Pmsg}
use Rattle.zone_spec.specs.declared.params.Row.{Row}
use Rattle.zone_spec.specs.Layout.{rounded, even, one_row}
use Rattle.layout_spec.specs.declared.Candidate.{Candidate}
use Rattle.layout_spec.specs.Laid.{memory_for_dumps}

abbrev pub dumps_of : Candidate → ℕ
dumps_of c = if rounded c.dump == 0 then 0 else memory_for_dumps c / rounded c.dump

abbrev pub dump_row_of : Candidate → Row
dump_row_of c = record { kind = Dump; count = dumps_of c; size = even (memory_for_dumps c / dumps_of c) }

abbrev pub console_row_of : Candidate → Row
console_row_of c = one_row Console (rounded c.console)

abbrev pub ftrace_row_of : Candidate → Row
ftrace_row_of c = record {
  kind = Ftrace;
  count = if rounded c.ftrace == 0 then 0 else c.cpus;
  size = even (rounded c.ftrace / c.cpus);
}

abbrev pub pmsg_row_of : Candidate → Row
pmsg_row_of c = one_row Pmsg (rounded c.pmsg)

-- the sizes are within 16 MiB
pub record IsRoomy (c : Candidate) : Type 0 where
  pub mem : c.mem ≤ 2 ^ 24
  pub console : rounded c.console ≤ 2 ^ 24
  pub ftrace : rounded c.ftrace ≤ 2 ^ 24
  pub pmsg : rounded c.pmsg ≤ 2 ^ 24
