-- A near codeword is damage that the candidate answers, so no candidate is no codeword, and a
-- mended word is the near one. For `corrected`.
use Rattle.std.proofs.Common.{◌≡◌, ℕ, ◌+◌, ◌/◌, ◌≤◌, ◌<◌, Bool, IsTrue, ◌↔◌, List, ◌++◌, length, get_or, take}
use Rattle.std.proofs.Common.{length-append, arith, sym, ap, ◌∙◌, subst}
use Rattle.rs_encode.proofs.Steps.{symbols_each}
use Rattle.code_spec.specs.Field.{gf_pow}
use Rattle.code_laws.proofs.Symbols.{HasRoots, Symbols}
use Rattle.code_spec.specs.Code.{value_of}
use Rattle.code_laws.proofs.Words.{word_sum}
use Rattle.decoder_laws.specs.Damage.{IsDamage, IsWithin}
use Rattle.rs_decode.specs.Fixes.{applied, fixes_between, fixes_from}
use Rattle.rs_decode.specs.declared.Fix.{Fix}
use Rattle.decoder_laws.proofs.Damage.{damage_of, none_at_zero, values_cut, positive}
use Rattle.rs_decode.proofs.FixedWords.{applied_near, apply_fixes_between}
use Rattle.code_laws.proofs.Steps.{symbols-append}
use Rattle.decoder_laws.proofs.Nearest.{nearest_of_within}
use Rattle.rs_decode.proofs.NearestFixes.{true_false, within_none}
use Rattle.rs_decode.proofs.mending.corrected.Goals as goal

-- a near codeword is damage that the candidate answers
answered : (t : ℕ) (m p vs : List ℕ) (c' : List ℕ) → t + t ≤ length p → Symbols m → Symbols p
    → ((k : ℕ) → k < length p → get_or vs k 0 ≡ value_of (m ++ p) (gf_pow 2 k))
    → IsWithin t (length p) (m ++ p) c' → IsDamage t (length m + length p)
    (take (t + t) vs) (word_sum (m ++ p) c')
answered t m p vs c' l bm bp v h =
    let d = damage_of t (length p) (m ++ p) c' (take (t + t) vs)
    l (symbols-append m p bm bp) h (values_cut t (length p) vs (m ++ p) l v) in
    subst (λ (n : ℕ). IsDamage t n (take (t + t) vs) (word_sum (m ++ p) c'))
    (length-append m p) d

wider : (t r : ℕ) (w c : List ℕ) → t + t ≤ r → IsWithin t r w c → IsWithin (r / 2) r w c
wider t r w c l h = record {
  len = h.len;
  symbols = h.symbols;
  codeword = h.codeword;
  near = (let n = h.near in omega arith);
}

same_fixes : (m p c' : List ℕ) (fs : List Fix) → fs ≡ fixes_from (length m + length p) (word_sum (m ++ p) c')
    → fs ≡ fixes_between (m ++ p) c'
same_fixes m p c' fs e = e ∙ ap (λ (n : ℕ). fixes_from n (word_sum (m ++ p) c')) (sym (length-append m p))

-- the fixed word is a codeword if it is found mended
mended : (r : ℕ) (w : List ℕ) (us fs : List Fix) (answer : Bool) → us ≡ fs
    → IsTrue answer ↔ HasRoots r (applied us w) → IsTrue answer ↔ HasRoots r (applied fs w)
mended r w us fs answer e h = subst (λ (xs : List Fix). IsTrue answer ↔ HasRoots r (applied xs w)) e h

pub returns-then-most-eq0-clause-nowhere : goal.returns-then-most-eq0-clause-nowhere
returns-then-most-eq0-clause-nowhere c = λ _. within_none c.args.most (length c.args.par.now)
    (c.args.msg.now ++ c.args.par.now)
    (symbols-append c.args.msg.now c.args.par.now (symbols_each c.args.msg.now (λ k. (c.type_inv.msg k).fits))
    (symbols_each c.args.par.now (λ k. (c.type_inv.par k).fits)))
    (λ c' h. none_at_zero c.args.most (length c.args.par.now)
    (c.args.msg.now ++ c.args.par.now) c' c.if-most-eq0.true c.requires.wrong h)

pub returns-then-not-found-clause-nowhere : goal.returns-then-not-found-clause-nowhere
returns-then-not-found-clause-nowhere c =
    let bm = symbols_each c.args.msg.now (λ k. (c.type_inv.msg k).fits) in
    let bp = symbols_each c.args.par.now (λ k. (c.type_inv.par k).fits) in
    λ _. within_none c.args.most (length c.args.par.now) (c.args.msg.now ++ c.args.par.now)
    (symbols-append c.args.msg.now c.args.par.now bm bp) (λ c' h. true_false c.candidate-found.result
    (c.candidate-found.ensures.found (word_sum (c.args.msg.now ++ c.args.par.now) c')
    (answered c.args.most c.args.msg.now c.args.par.now c.args.values.now c' c.requires.most bm bp
    c.requires.values h)).0 c.if-not-found.true)

pub returns-clause-near : goal.returns-clause-near
returns-clause-near c = λ e.
    let W : List ℕ = c.args.msg.now ++ c.args.par.now in
    let n : ℕ = length c.args.msg.now + length c.args.par.now in
    let r : ℕ = length c.args.par.now in
    let fs : List Fix = c.candidate-found.new.fixes.items in
    let is_mended = mended r W c.as_slice.result.now fs c.is_mended.result c.as_slice.ensures.value
    c.is_mended.ensures in
    applied_near c.args.most r n W fs
    (symbols-append c.args.msg.now c.args.par.now (symbols_each c.args.msg.now (λ k. (c.type_inv.msg k).fits))
    (symbols_each c.args.par.now (λ k. (c.type_inv.par k).fits)))
    c.candidate-found.ensures.inside c.candidate-found.ensures.few
    (is_mended.0 e)

pub returns-clause-fixes : goal.returns-clause-fixes
returns-clause-fixes c = λ e.
    let w : List ℕ = applied c.candidate-found.new.fixes.items (c.args.msg.now ++ c.args.par.now) in
    same_fixes c.args.msg.now c.args.par.now w c.candidate-found.new.fixes.items
    (c.candidate-found.ensures.found (word_sum (c.args.msg.now ++ c.args.par.now) w)
    (answered c.args.most c.args.msg.now c.args.par.now c.args.values.now w c.requires.most
    (symbols_each c.args.msg.now (λ k. (c.type_inv.msg k).fits))
    (symbols_each c.args.par.now (λ k. (c.type_inv.par k).fits)) c.requires.values
    (returns-clause-near c e))).1

pub returns-clause-some : goal.returns-clause-some
returns-clause-some c = λ e.
    positive c.args.most (length c.args.par.now) (c.args.msg.now ++ c.args.par.now)
    (applied c.candidate-found.new.fixes.items (c.args.msg.now ++ c.args.par.now))
    c.requires.wrong (returns-clause-near c e)

pub returns-clause-nearest : goal.returns-clause-nearest
returns-clause-nearest c = λ e.
    let W : List ℕ = c.args.msg.now ++ c.args.par.now in
    nearest_of_within (length c.args.par.now) W (applied c.candidate-found.new.fixes.items W)
    (omega (arith, length-append c.args.msg.now c.args.par.now, c.requires.fits))
    (symbols-append c.args.msg.now c.args.par.now (symbols_each c.args.msg.now (λ k. (c.type_inv.msg k).fits))
    (symbols_each c.args.par.now (λ k. (c.type_inv.par k).fits)))
    (wider c.args.most (length c.args.par.now) W (applied c.candidate-found.new.fixes.items W) c.requires.most
    (returns-clause-near c e))

pub returns-clause-nowhere : goal.returns-clause-nowhere
returns-clause-nowhere c = λ e.
    let bm = symbols_each c.args.msg.now (λ k. (c.type_inv.msg k).fits) in
    let bp = symbols_each c.args.par.now (λ k. (c.type_inv.par k).fits) in
    let W : List ℕ = c.args.msg.now ++ c.args.par.now in
    let n : ℕ = length c.args.msg.now + length c.args.par.now in
    let r : ℕ = length c.args.par.now in
    let fs : List Fix = c.candidate-found.new.fixes.items in
    let is_mended = mended r W c.as_slice.result.now fs c.is_mended.result c.as_slice.ensures.value
    c.is_mended.ensures in
    within_none c.args.most r W (symbols-append c.args.msg.now c.args.par.now bm bp) (λ c' h.
    let fixes : fs ≡ fixes_between W c' = same_fixes c.args.msg.now c.args.par.now c' fs
    (c.candidate-found.ensures.found (word_sum W c')
    (answered c.args.most c.args.msg.now c.args.par.now c.args.values.now c' c.requires.most bm bp
    c.requires.values h)).1 in
    let is_c : applied fs W ≡ c' = ap (λ (us : List Fix). applied us W) fixes ∙ apply_fixes_between W c' h.len in
    true_false c.is_mended.result (is_mended.1 (subst (HasRoots r) (sym is_c) h.codeword)) e)
