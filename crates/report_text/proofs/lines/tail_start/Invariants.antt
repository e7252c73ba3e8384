-- The lines so far are those after this place, fewer than are wanted
use Rattle.std.proofs.Common.{◌≡◌, ◌<◌, ◌≤◌, drop, length}
use Rattle.report_text.specs.Tails.{breaks}
use Rattle.report_text.proofs.lines.tail_start.Given as goal

abbrev pub invariant-loop-i : goal.invariant-loop-i
invariant-loop-i l = record {
  within : l.i ≤ length l.bytes;
  lines : l.lines ≡ breaks (drop l.i l.bytes);
  few : l.lines < l.most;
}
