-- The first values with the fixes are zero, and the others are tested: all are zero exactly when the fixed word is a
-- codeword. For `is_mended`.
use Rattle.std.proofs.Common.{◌≡◌, ℕ, ◌<◌, ◌+◌, List, [], ◌++◌, length, drop, get_or, length-append, length-drop}
use Rattle.std.proofs.Common.{get_or-drop, take, take_all, ◌-◌, arith, refl, sym, ap, ap₂, ◌∙◌}
use Rattle.code_spec.specs.Field.{gf_add, gf_pow}
use Rattle.code_spec.specs.Code.{value_of}
use Rattle.code_laws.proofs.Ring.{add_self}
use Rattle.rs_decode.specs.Fixes.{AllInside, fix_sum}
use Rattle.rs_decode.specs.declared.Fix.{Fix}
use Rattle.rs_decode.proofs.FixedWords.{AreSums, codeword_from_sums, sums_of_codeword}
use Rattle.rs_decode.proofs.mending.is_mended.Goals as goal

sums_are : (first : ℕ) (m p vs rest sums : List ℕ) (fs : List Fix) → AllInside (length m + length p) fs
    → rest ≡ drop first vs → first + length sums ≡ length p
    → ((k : ℕ) → k < length p → get_or vs k 0 ≡ value_of (m ++ p) (gf_pow 2 k))
    → ((k : ℕ) → k < first → fix_sum (length m + length p) fs (gf_pow 2 k) ≡ get_or vs k 0)
    → ((k : ℕ) → k < length sums → get_or sums k 0
    ≡ gf_add (get_or rest k 0) (fix_sum (length m + length p) fs (gf_pow 2 (first + k))))
    → AreSums (length m + length p) first (length p) (m ++ p) fs sums
sums_are first m p vs rest sums fs a e l v z h = record {
  len = length-append m p;
  inside = a;
  count = l;
  zeros = λ k lk. ap₂ gf_add (sym (v k (omega arith))) (z k lk) ∙ add_self (get_or vs k 0);
  at = λ k lk. h k lk
      ∙ ap (λ (y : ℕ). gf_add y (fix_sum (length m + length p) fs (gf_pow 2 (first + k))))
      (ap (λ (u : List ℕ). get_or u k 0) e ∙ get_or-drop first vs k 0 ∙ v (first + k) (omega arith));
}

pub returns-then-left-eq0 : goal.returns-then-left-eq0
returns-then-left-eq0 c =
    let sums = sums_are c.args.first c.args.msg.now c.args.par.now c.args.values.now
    (drop c.args.first c.args.values.now) [] c.args.fixes.now c.requires.inside refl (omega arith) c.requires.values c.requires.sums (λ k l. absurd (omega arith)) in (
      (λ e. codeword_from_sums (length c.args.msg.now + length c.args.par.now) c.args.first (length c.args.par.now)
          (c.args.msg.now ++ c.args.par.now) c.args.fixes.now [] sums (λ k l. absurd (omega arith))),
      (λ h. refl),
    )

pub returns : goal.returns
returns c =
    let W : List ℕ = c.args.msg.now ++ c.args.par.now in
    let n : ℕ = length c.args.msg.now + length c.args.par.now in
    let r : ℕ = length c.args.par.now in
    let rest : List ℕ = drop c.args.first c.args.values.now in
    let sums : AreSums n c.args.first r W c.args.fixes.now c.add_fixes.new.values = sums_are c.args.first
    c.args.msg.now c.args.par.now c.args.values.now (take (length c.args.values.now - c.args.first) rest)
    c.add_fixes.new.values c.args.fixes.now c.requires.inside
    (take_all (length c.args.values.now - c.args.first) rest
    (omega (arith, length-drop c.args.first c.args.values.now)))
    (omega (arith, c.add_fixes.auto.values, c.requires.len, length-drop c.args.first c.args.values.now))
    c.requires.values c.requires.sums c.add_fixes.ensures in (
      (λ e. codeword_from_sums n c.args.first r W c.args.fixes.now c.add_fixes.new.values sums
          (c.all_zero.ensures.0 e)),
      (λ h. c.all_zero.ensures.1 (sums_of_codeword n c.args.first r W c.args.fixes.now c.add_fixes.new.values sums h)),
    )
