-- The excess is zero exactly for a codeword, and its values are the word's syndromes. For
-- `has_values_of`.
use Rattle.std.proofs.Common.{◌∙◌, arith}
use Rattle.rs_encode.proofs.Steps.{symbols_each}
use Rattle.decoder_laws.proofs.Nearest.{no_excess, codeword_excess, excess_value}
use Rattle.rs_decode.proofs.NearestFixes.{true_false}
use Rattle.rs_decode.proofs.excess.has_values_of.Goals as goal

pub returns-then-all_zero-clause-clean : goal.returns-then-all_zero-clause-clean
returns-then-all_zero-clause-clean c = λ _.
    no_excess c.args.msg.now c.args.par.now c.args.excess.now
    (symbols_each c.args.msg.now (λ k. (c.type_inv.msg k).fits)) c.requires.excess
    (c.all_zero.ensures.0 c.if-all_zero.true)

pub returns-clause-damaged : goal.returns-clause-damaged
returns-clause-damaged c = λ _ h.
    true_false c.all_zero.result
    (c.all_zero.ensures.1 (codeword_excess c.args.msg.now c.args.par.now c.args.excess.now c.requires.fits
    (symbols_each c.args.msg.now (λ k. (c.type_inv.msg k).fits))
    (symbols_each c.args.par.now (λ k. (c.type_inv.par k).fits)) c.requires.excess h))
    c.if-all_zero.false

pub returns-clause-values : goal.returns-clause-values
returns-clause-values c = λ _ k l.
    c.excess_values.ensures k (omega (arith, c.requires.len))
    ∙ excess_value c.args.msg.now c.args.par.now c.args.excess.now
    (symbols_each c.args.msg.now (λ k. (c.type_inv.msg k).fits)) c.requires.excess k l
