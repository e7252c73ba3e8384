-- The fixes that are left, applied to the word so far, give the fixed word. For the loop of
-- `apply`.
use Rattle.std.proofs.Common.{◌≡◌, drop}
use Rattle.rs_decode.specs.Fixes.{applied}
use Rattle.rs_decode.proofs.mending.apply.Given as goal

abbrev pub invariant-loop-fix : goal.invariant-loop-fix
invariant-loop-fix l = applied (drop l.fix-index l.fixes) l.word ≡ applied l.fixes l.fn.word
