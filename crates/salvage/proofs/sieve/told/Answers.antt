-- Sums that are not marked are of three errors at least, and factors mean as many errors as there are factors. For
-- `told`.
use Rattle.std.proofs.Common.{◌-◌, ◌≡◌, ℕ, List, get_or, ap, sym, subst, length, ◌∙◌, arith}
use Rattle.std.specs.Prelude.{slice_index}
use Rattle.std.proofs.lemmas.List.{length-take-le}
use Rattle.rs_encode.proofs.Lanes.{bytes_are_digits}
use Rattle.rs_encode.specs.Lanes.{digit}
use Rattle.salvage.specs.Sieves.{AreMarks}
use Rattle.salvage.proofs.Rows.{length-range}
use Rattle.salvage.proofs.BlockFactors.{errors, block_more}
use Rattle.salvage.proofs.BlockSums.{block_sums}
use Rattle.salvage.proofs.Pairs.{three}
use Rattle.salvage.proofs.sieve.told.Goals as goal

pub sums_of-lane-requires-clause-word : goal.sums_of-lane-requires-clause-word
sums_of-lane-requires-clause-word c =
    omega (
      arith,
      ap (λ (xs : List ℕ). length xs) c.as_slice.ensures.value,
      length-range c.args.word.now c.args.block.now.from c.args.block.now.to c.requires.order c.requires.within,
      c.requires.rows,
      c.requires.short,
    )

pub returns-then-not-may_be_two-clause-told : goal.returns-then-not-may_be_two-clause-told
returns-then-not-may_be_two-clause-told c = λ ks r d l is hb hd.
    let two : c.args.block.now.least ≡ 2 = omega (arith, c.if-block-eq2.true) in
    three ks r c.args.block.now is d c.args.base.now hd hb c.args.word.now
    (λ i. digit c.sums_of-lane.result (15 - i)) l two
    (block_sums ks r c.args.block.now is c.args.word.now c.args.base.now l (hb.len ∙ sym l) _ c.as_slice.ensures.value
    c.sums_of-lane.result c.sums_of-lane.ensures (λ i. digit c.sums_of-lane.result (15 - i))
    (λ i p e. ap (digit c.sums_of-lane.result) (omega (arith, e))))
    (λ x y low below end. c.may_be_two.ensures c.if-not-may_be_two.true _ _ x y
    (subst (AreMarks _ _) (sym c.as_slice-then-block-eq2.ensures.value) (is.marks two)) low below end)

pub returns-then-are_factors-clause-told : goal.returns-then-are_factors-clause-told
returns-then-are_factors-clause-told c = λ ks r d l is hb hd.
    let factors = c.are_factors.ensures c.if-are_factors.true in
    errors ks r c.args.block.now is d c.args.base.now hd hb c.args.word.now _ (slice_index c.to_be_bytes-sums.result) l
    (length-take-le c.args.block.now.least c.factors_of-factors.result
    (omega (arith, c.requires.four, c.factors_of-factors.ensures)))
    (block_sums ks r c.args.block.now is c.args.word.now c.args.base.now l (hb.len ∙ sym l) _ c.as_slice.ensures.value
    c.sums_of-lane.result c.sums_of-lane.ensures (slice_index c.to_be_bytes-sums.result)
    (λ i p e. ap (λ (u : List ℕ). get_or u i 0) c.to_be_bytes-sums.ensures
    ∙ bytes_are_digits 16 c.sums_of-lane.result i p (omega (arith, e))))
    factors.zero factors.some

pub returns-else-are_factors-clause-told : goal.returns-else-are_factors-clause-told
returns-else-are_factors-clause-told c = λ ks r d l is hb hd.
    block_more c.args.word.now d c.args.block.now.from c.args.block.now.to (l ∙ sym hd.len) c.requires.order
