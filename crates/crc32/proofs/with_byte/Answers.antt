-- The row of the low byte and the other bits are what eight bits leave. For `with_byte`.
use Rattle.std.proofs.Common.{◌∙◌, ap, bit_xor, ◌/◌}
use Rattle.gzip_spec.specs.Crc.{shifted}
use Rattle.crc32.proofs.EightBits.{low_byte}
use Rattle.crc32.proofs.with_byte.Goals as goal

pub returns : goal.returns
returns c =
    ap (bit_xor (bit_xor c.args.crc c.from.result / 256)) c.row.ensures ∙ low_byte (bit_xor c.args.crc c.from.result)
    ∙ ap (λ b. shifted 8 (bit_xor c.args.crc b)) c.from.ensures
