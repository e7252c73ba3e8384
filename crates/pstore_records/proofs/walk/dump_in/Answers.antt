-- The time line lies within the log
use Rattle.std.proofs.Common.{arith}
use Rattle.pstore_records.proofs.Lengths.{line-within}
use Rattle.pstore_records.proofs.walk.dump_in.Goals as goal

pub slice_bounds-result-count : goal.slice_bounds-result-count
slice_bounds-result-count c = omega (
  arith,
  line-within c.in_ok-log.log.now c.read_line.result c.in_ok-line.line c.read_line.ensures
      c.in_ok-line.was,
)

pub slice_bounds-result-start : goal.slice_bounds-result-start
slice_bounds-result-start c = omega (
  arith,
  line-within c.in_ok-log.log.now c.read_line.result c.in_ok-line.line c.read_line.ensures
      c.in_ok-line.was,
)
