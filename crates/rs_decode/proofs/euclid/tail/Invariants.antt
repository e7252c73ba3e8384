-- The symbols from `start` to `i` are taken. For the loop of `tail`.
use Rattle.std.proofs.Common.{◌≡◌, ◌-◌, take, drop}
use Rattle.rs_decode.proofs.euclid.tail.Given as goal

abbrev pub invariant-loop-i : goal.invariant-loop-i
invariant-loop-i l = l.out.items ≡ take (l.i - l.start) (drop l.start l.word)
