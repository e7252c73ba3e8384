-- The bytes so far, and those of the pairs that are left, are the text's. For the loop of
-- `decode_into`.
use Rattle.std.proofs.Common.{◌≡◌, ◌*◌, take, drop}
use Rattle.hex.specs.Hex.{decode_pairs}
use Rattle.hex.proofs.Pairs.{prepend}
use Rattle.script.proofs.digits.decode_into.Given as goal

-- the bytes so far stand before those of the pairs that are left
abbrev pub invariant-pairs : goal.invariant-pairs
invariant-pairs l =
    decode_pairs 0 l.text ≡ prepend (take l.i l.bytes) (decode_pairs (2 * l.i) (drop (2 * l.i) l.text))
