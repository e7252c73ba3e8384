-- The rows begin with zeros, a power and the syndromes reversed, as Euclid's algorithm wants them;
-- what it gives solves the key equation. For `solve`.
use Rattle.std.proofs.Common.{◌≡◌, ℕ, ◌+◌, List, reverse, sym, ap, ◌∙◌, subst, arith, length-take, drop}
use Rattle.decoder_laws.specs.Polynomials.{poly, LeadingZeros}
use Rattle.decoder_laws.specs.Series.{Bytes}
use Rattle.decoder_laws.specs.Euclid.{IsSolution}
use Rattle.decoder_laws.proofs.Polynomials.{zeros_taken, poly-drop_zeros, poly-single, poly-single_last, reversed_bytes}
use Rattle.rs_decode.proofs.euclid.solve.Goals as goal

pub single-requires-clause-zeros : goal.single-requires-clause-zeros
single-requires-clause-zeros c = λ k l. zeros_taken (c.args.t + c.args.t + 16) 142 k

pub reverse_into-requires-clause-zeros : goal.reverse_into-requires-clause-zeros
reverse_into-requires-clause-zeros c = record { at = λ k l. zeros_taken (c.args.t + c.args.t + 16) 142 k }

pub single-requires-2-clause-zeros : goal.single-requires-2-clause-zeros
single-requires-2-clause-zeros c = λ k l. zeros_taken (c.args.t + 16) 79 k

pub euclid-requires-clause-none : goal.euclid-requires-clause-none
euclid-requires-clause-none c = record { at = λ k l. zeros_taken (c.args.t + 16) 79 k }

pub euclid-requires-clause-power : goal.euclid-requires-clause-power
euclid-requires-clause-power c =
    poly-single 15 (c.args.t + c.args.t) c.single.new.word (omega (arith, c.single.auto.word, length-take {A = ℕ}))
    c.single.ensures.one c.single.ensures.zeros

pub euclid-requires-clause-one : goal.euclid-requires-clause-one
euclid-requires-clause-one c =
    poly-single_last (c.args.t + 15) c.single-2.new.word (omega (arith, c.single-2.auto.word, length-take {A = ℕ}))
    c.single-2.ensures.one c.single-2.ensures.zeros

-- the zeros before the syndromes
after_zeros : (s w : List ℕ) → LeadingZeros 16 w → drop 16 w ≡ reverse s → poly w ≡ poly (reverse s)
after_zeros s w z e = sym (poly-drop_zeros 16 w z) ∙ ap poly e

pub euclid-requires-clause-bytes : goal.euclid-requires-clause-bytes
euclid-requires-clause-bytes c =
    subst Bytes (sym (after_zeros c.args.syndromes.now c.reverse_into.new.out c.reverse_into.ensures.zeros
    c.reverse_into.ensures.rest))
    (reversed_bytes c.args.syndromes.now (λ k. (c.type_inv.syndromes k).fits))

pub returns : goal.returns
returns c =
    subst (λ (S : ℕ → ℕ). IsSolution c.args.t S c.euclid.result.locator.items c.euclid.result.evaluator.items)
    (after_zeros c.args.syndromes.now c.reverse_into.new.out c.reverse_into.ensures.zeros
    c.reverse_into.ensures.rest) c.euclid.ensures
