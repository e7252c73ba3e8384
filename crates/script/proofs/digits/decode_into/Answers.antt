-- One pair of digits more is one byte more. For `decode_into`.
use Rattle.std.proofs.Common.{arith, ◌*◌}
use Rattle.hex.proofs.Pairs.{decode_start, decode_step, decode_done}
use Rattle.script.proofs.digits.decode_into.Goals as goal

pub pairs-init : goal.pairs-init
pairs-init c = decode_start c.args.text.now c.args.bytes.now

pub pairs-preserved : goal.pairs-preserved
pairs-preserved c =
    decode_step c.args.text.now c.pairs.bytes c.pairs.i c.byte_of.result (omega arith) (omega arith)
    (c.byte_of.ensures (2 * c.pairs.i)) c.pairs.invariant

pub returns : goal.returns
returns c = decode_done c.args.text.now c.pairs.bytes c.pairs.i (omega arith) (omega arith) c.pairs.invariant
