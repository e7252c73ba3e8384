-- One place more has its mask, and each place is the word's own. For the loop of `fill`.
use Rattle.std.proofs.Common.{ℕ, List, get_or, take, arith, sym, ap, ◌∙◌, subst₂, length-take}
use Rattle.std.proofs.lemmas.List.{take_more}
use Rattle.code_spec.specs.Field.{gf_mul}
use Rattle.rs_decode.specs.Fixes.{AreFixes, IsFix}
use Rattle.rs_decode.specs.declared.Fix.{Fix}
use Rattle.rs_decode.proofs.Fixes.{are_fixes-push}
use Rattle.decoder_laws.proofs.Chien.{powers_below-255, powers_below-at}
use Rattle.rs_decode.proofs.forney.fill.Goals as goal

pub fix_of-fix-requires-clause-own : goal.fix_of-fix-requires-clause-own
fix_of-fix-requires-clause-own c = powers_below-at c.args.places c.args.powers.now c.loop-k.k
    (omega arith) c.requires.inside

pub fix_of-fix-requires-clause-below : goal.fix_of-fix-requires-clause-below
fix_of-fix-requires-clause-below c = powers_below-255 c.args.places c.args.powers.now c.requires.places
    c.requires.inside

pub loop-k-preserved : goal.loop-k-preserved
loop-k-preserved c =
    let k : ℕ = c.loop-k.k in
    let fix : IsFix c.args.places c.args.scale c.args.evaluator.now c.args.powers.now
    (get_or c.args.powers.now k 0) c.fix_of-fix.result = record {
      place = c.fix_of-fix.ensures.place;
      mask_byte = c.fix_of-fix.ensures.mask_byte;
      mask = c.fix_of-fix.ensures.mask ∙ ap (gf_mul c.args.scale)
          (c.evaluated.ensures k (omega (arith, c.evaluated.auto.values, length-take {A = ℕ})));
    } in
    record {
      len = omega (arith, c.push.ensures.len, c.loop-k.invariant.len);
      are = subst₂ (λ (ps : List ℕ) (fs : List Fix). AreFixes c.args.places c.args.scale c.args.evaluator.now
          c.args.powers.now ps fs)
          (sym (take_more c.args.powers.now k 0 (omega arith))) (sym c.push.ensures.items)
          (are_fixes-push c.args.places c.args.scale c.args.evaluator.now c.args.powers.now
          (take k c.args.powers.now) c.loop-k.fixes.items (get_or c.args.powers.now k 0)
          c.fix_of-fix.result c.loop-k.invariant.are fix);
    }
