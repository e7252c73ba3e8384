-- One fix more adds its terms, and in the end the values are those of the fixed word. For
-- `add_fixes`.
use Rattle.std.proofs.Common.{◌≡◌, ◌+◌, ◌-◌, ◌<◌, ◌≤◌, ℕ, suc, refl, ap, ◌∙◌, arith, List, ◌∷◌, drop, drop-cons, length}
use Rattle.std.proofs.Common.{get_or}
use Rattle.std.proofs.lemmas.Grind.{common_steps}
use Rattle.std.proofs.lemmas.List.{drop_all}
use Rattle.code_spec.specs.Field.{gf_add, gf_pow}
use Rattle.rs_decode.specs.declared.Fix.{Fix}
use Rattle.rs_decode.specs.Fixes.{fix_sum}
use Rattle.rs_decode.proofs.FixedWords.{sum_step, sum_end}
use Rattle.rs_decode.proofs.mending.add_fixes.Goals as goal

pub loop-fix-preserved : goal.loop-fix-preserved
loop-fix-preserved c =
    let n : ℕ = c.args.places in
    let i : ℕ = c.loop-fix.fix-index in
    let fs : List Fix = c.args.fixes.now in
    let d : Fix = record { place = 0; mask = 0 } in
    let f : Fix = get_or fs i d in
    let lt : i < length fs = omega arith in
    let next : suc i ≡ i + 1 = omega arith in record {
      inside = grind (arith, common_steps);
      sums = λ k l. sum_step n (c.args.first + k) (n - 1 - f.place) (get_or c.loop-fix.values k 0) (get_or c.add_fix.new.values k 0)
          (gf_add (get_or c.args.values.now k 0) (fix_sum n fs (gf_pow 2 (c.args.first + k)))) f (drop i fs) (drop (i + 1) fs)
          (drop-cons fs i d lt ∙ ap (λ (j : ℕ). f ∷ drop j fs) next) (c.add_fix.ensures k l) refl
          (c.loop-fix.invariant.sums k (omega arith));
    }

pub returns : goal.returns
returns c = λ k l.
    let past : length c.args.fixes.now ≤ c.loop-fix.fix-index = omega arith in
    sum_end c.args.places (gf_pow 2 (c.args.first + k)) (get_or c.loop-fix.values k 0)
    (gf_add (get_or c.args.values.now k 0) (fix_sum c.args.places c.args.fixes.now (gf_pow 2 (c.args.first + k))))
    (drop c.loop-fix.fix-index c.args.fixes.now) (drop_all c.loop-fix.fix-index c.args.fixes.now past)
    (c.loop-fix.invariant.sums k l)
