-- Each byte goes on to the rest; behind the last one there is none. For `crc32`.
use Rattle.std.proofs.Common.{refl, ap, sym, ◌∙◌, arith, drop, bit_xor, ◌+◌}
use Rattle.std.proofs.lemmas.List.{drop_all, drop_more}
use Rattle.gzip_spec.specs.Crc.{crc_from, crc32}
use Rattle.crc32.proofs.crc32.Goals as goal

pub loop-byte-init : goal.loop-byte-init
loop-byte-init c = refl

pub loop-byte-preserved : goal.loop-byte-preserved
unfolding crc_from
loop-byte-preserved c =
    c.loop-byte.invariant
    ∙ ap (crc_from c.loop-byte.crc) (drop_more c.args.bytes.now c.loop-byte.byte-index 0 c.loop-byte-test.true)
    ∙ ap (λ k. crc_from k (drop (c.loop-byte.byte-index + 1) c.args.bytes.now)) (sym c.with_byte-crc.ensures)

pub returns : goal.returns
unfolding crc_from crc32
returns c =
    ap (λ k. bit_xor k 0xffffffff)
    (sym (c.loop-byte.invariant
    ∙ ap (crc_from c.loop-byte.crc)
    (drop_all c.loop-byte.byte-index c.args.bytes.now (omega (arith, c.loop-byte-test.false)))))
