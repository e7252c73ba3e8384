-- The symbols so far with the rest are a codeword, and the rest is bytes. For the loop of
-- `bare_parity`.
use Rattle.std.proofs.Common.{◌≡◌, ◌<◌, ℕ, ◌++◌, length, take, get_or}
use Rattle.code_spec.specs.Code.{IsCodeword}
use Rattle.rs_encode.proofs.bare_parity.Given as goal

abbrev pub invariant-loop-c : goal.invariant-loop-c
invariant-loop-c l = record {
  len : length l.out ≡ length l.fn.out;
  codeword : IsCodeword (length l.fn.out) (take l.c-index l.msg ++ l.out);
  bytes : (k : ℕ) → get_or l.out k 0 < 256;
}
