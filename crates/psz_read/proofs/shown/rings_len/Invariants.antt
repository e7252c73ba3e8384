-- No dump stands among the marks so far, which are counted. For the loop of `rings_len`.
use Rattle.std.proofs.Common.{◌≡◌, ◌++◌, take, drop}
use Rattle.psz_spec.specs.Marks.{rings_of}
use Rattle.psz_read.proofs.shown.rings_len.Given as goal

abbrev pub invariant-loop-mark : goal.invariant-loop-mark
invariant-loop-mark l = record {
  counted : l.len ≡ l.mark-index;
  front : rings_of l.marks ≡ take l.mark-index l.marks ++ rings_of (drop l.mark-index l.marks);
}
