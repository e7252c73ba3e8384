-- The fixed word has its parity exactly when all its values are zero. For `is_mended_by_parity`.
use Rattle.std.proofs.Common.{◌≡◌, ℕ, List, ◌++◌, length, take, drop, take-append-drop, length-drop, length-append}
use Rattle.std.proofs.Common.{arith, sym, ap, ap₂, ◌∙◌, subst, take_at}
use Rattle.code_laws.proofs.Symbols.{HasRoots}
use Rattle.code_laws.proofs.Parity.{roots_of, codeword_of}
use Rattle.rs_decode.specs.Fixes.{applied}
use Rattle.rs_decode.proofs.mending.is_mended_by_parity.Goals as goal

parts : (k : ℕ) (front back u : List ℕ) → front ≡ take k u → back ≡ drop k u → front ++ back ≡ u
parts k front back u ef eb = ap₂ ◌++◌ ef eb ∙ take-append-drop k u

pub returns : goal.returns
returns c =
    let W : List ℕ = c.args.msg.now ++ c.args.par.now in
    let n : List ℕ = c.apply.new.word in
    let j : List ℕ = c.joined-word.result.items in
    let em : c.as_mut_slice.result.now ≡ W = c.as_mut_slice.ensures.value ∙ c.joined-word.ensures in
    let ln : length n ≡ length c.as_mut_slice.result.now = omega arith in
    let whole : take (length j) (n ++ drop (length n) j) ≡ n =
    take_at n (drop (length n) j) (length j) (ln ∙ ap length c.as_mut_slice.ensures.value) in
    let front : List ℕ = c.split_at.result.0.now in
    let back : List ℕ = c.split_at.result.1.now in
    let fixed : front ++ back ≡ applied c.args.fixes.now W =
    parts (length c.args.msg.now) front back c.as_slice.result.now c.split_at.ensures.front c.split_at.ensures.back
    ∙ c.as_slice.ensures.value ∙ whole ∙ c.apply.ensures ∙ ap (applied c.args.fixes.now) em in
    let r : ℕ = length c.args.par.now in
    let same : length back ≡ r = omega (
      arith,
      ap length c.split_at.ensures.back,
      length-drop (length c.args.msg.now) c.as_slice.result.now,
      ap length (c.as_slice.ensures.value ∙ whole),
      ln,
      ap length em,
      length-append c.args.msg.now c.args.par.now,
    ) in (
      (λ h. subst (λ (w : List ℕ). HasRoots r w) fixed
          (subst (λ (k : ℕ). HasRoots k (front ++ back)) same
          (roots_of (length back) (front ++ back) (c.is_parity_by.ensures.0 h)))),
      (λ h. c.is_parity_by.ensures.1 (codeword_of (length back) (front ++ back)
          (subst (λ (k : ℕ). HasRoots k (front ++ back)) (sym same)
          (subst (λ (w : List ℕ). HasRoots r w) (sym fixed) h)))),
    )
