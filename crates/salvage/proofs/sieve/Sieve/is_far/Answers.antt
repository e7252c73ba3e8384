-- Each block has its errors more, until they are too many. For `Sieve::is_far`.
use Rattle.std.proofs.Common.{◌+◌, ap, sym, ◌∙◌, arith, subst}
use Rattle.salvage.specs.Sieves.{IsBlock, IsKnownWord, Sifted}
use Rattle.salvage.proofs.BlockFactors.{far_more, own_block}
use Rattle.salvage.proofs.sieve.Sieve.is_far.Goals as goal

pub returns-then-most-count : goal.returns-then-most-count
returns-then-most-count c = λ _ d hd.
    let own : IsKnownWord c.self.inside.known c.self.inside.parity d =
    subst (λ (s : Sifted). IsKnownWord s.known s.parity d) (sym c.self.view_is) hd in
    let is : IsBlock c.self.inside.known c.self.inside.parity c.block-item.result =
    own_block c.self.inside.known c.self.inside.parity c.loop-block.block-index c.self.inside.blocks.items
    c.as_slice-block-items.result.now c.block-item.result c.as_slice-block-items.ensures.value c.self.invariant.each
    c.loop-block-test.true c.block-item.is in
    let more = far_more c.self.inside.known c.self.inside.parity c.block-item.result c.args.word.now
    c.as_slice.result.now c.self.inside.base.items d c.loop-block.count c.told-count.result c.loop-block.end is c.as_slice.ensures.value
    c.self.invariant.codeword (c.requires ∙ ap (λ (s : Sifted). 12 + s.parity) (sym c.self.view_is)) own
    c.if-block-end.false (c.loop-block.invariant.far d own) c.told-count.ensures.told in
    omega (arith, more, c.if-most-count.true)

pub loop-block-preserved : goal.loop-block-preserved
loop-block-preserved c =
    let is : IsBlock c.self.inside.known c.self.inside.parity c.block-item.result =
    own_block c.self.inside.known c.self.inside.parity c.loop-block.block-index c.self.inside.blocks.items
    c.as_slice-block-items.result.now c.block-item.result c.as_slice-block-items.ensures.value c.self.invariant.each
    c.loop-block-test.true c.block-item.is in
    record {
      far = λ d own. far_more c.self.inside.known c.self.inside.parity c.block-item.result c.args.word.now
          c.as_slice.result.now c.self.inside.base.items d c.loop-block.count c.told-count.result c.loop-block.end is
          c.as_slice.ensures.value c.self.invariant.codeword
          (c.requires ∙ ap (λ (s : Sifted). 12 + s.parity) (sym c.self.view_is)) own c.if-block-end.false
          (c.loop-block.invariant.far d own) c.told-count.ensures.told;
      small = omega (arith, c.loop-block.invariant.small, c.told-count.ensures.few);
    }
