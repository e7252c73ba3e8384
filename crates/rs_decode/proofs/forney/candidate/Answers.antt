-- A locator with no constant has no such fixes; else Chien's places and Forney's masks are the
-- only ones. For `candidate`.
use Rattle.std.proofs.Common.{◌≡◌, ℕ, ◌≤◌, ◌<◌, ◌+◌, ◌-◌, List, length, take, arith, sym, ap, ◌∙◌, subst, subst₂, refl}
use Rattle.std.proofs.Common.{length-take}
use Rattle.code_spec.specs.Field.{gf_mul}
use Rattle.code_laws.proofs.Ring.{zero_mul, mul_comm}
use Rattle.decoder_laws.specs.Polynomials.{poly}
use Rattle.rs_decode.specs.Fixes.{AreFixes}
use Rattle.rs_decode.specs.declared.Fix.{Fix}
use Rattle.decoder_laws.specs.Chien.{roots_of}
use Rattle.decoder_laws.proofs.Damage.{found_of}
use Rattle.decoder_laws.proofs.Chien.{found_count, own_roots_below}
use Rattle.rs_decode.proofs.Fixes.{found_fixes, are_fixes-length, are_fixes-inside}
use Rattle.decoder_laws.proofs.Powers.{inverse_is_unique}
use Rattle.rs_decode.proofs.Mended.{sums_are_syndromes, found_are_roots}
use Rattle.rs_decode.proofs.forney.candidate.Goals as goal

no_constant : (k a c : ℕ) → k ≡ a → k ≡ 0 → gf_mul a c ≡ 1 → ⊥
no_constant k a c e z h = let f : gf_mul a c ≡ 0 = ap (λ (x : ℕ). gf_mul x c) (sym e ∙ z) ∙ zero_mul c in
    omega (arith, h, f)

-- the powers, of the list in the row
own : (u v ps : List ℕ) (n : ℕ) → u ≡ v → ps ≡ take (length u - 1) (roots_of u n)
    → ps ≡ take (length v - 1) (roots_of v n)
own u v ps n e h = h ∙ ap (λ (w : List ℕ). take (length w - 1) (roots_of w n)) e

pub returns-then-constant-eq0-clause-found : goal.returns-then-constant-eq0-clause-found
returns-then-constant-eq0-clause-found c = λ D g.
    let v : List ℕ = c.solve-solution.result.locator.items in
    let f = found_of c.args.t c.args.places c.args.syndromes.now v c.solve-solution.result.evaluator.items D
    c.requires.places
    c.requires.len c.solve-solution.ensures g in
    absurd (no_constant c.last-constant.result (poly v 0) f.0
    (c.last-constant.ensures ∙ ap (λ (u : List ℕ). poly u 0) c.as_slice.ensures.value) c.if-constant-eq0.true f.2)

pub returns-then-len-clause-found : goal.returns-then-len-clause-found
returns-then-len-clause-found c = λ D g.
    let v : List ℕ = c.solve-solution.result.locator.items in
    let f = found_of c.args.t c.args.places c.args.syndromes.now v c.solve-solution.result.evaluator.items D
    c.requires.places
    c.requires.len c.solve-solution.ensures g in
    absurd (omega (
      arith,
      c.if-len.true,
      c.len.ensures.value,
      c.len-2.ensures.value,
      f.1.r_low,
      f.1.degree,
    ))

pub returns-then-len-2-clause-found : goal.returns-then-len-2-clause-found
returns-then-len-2-clause-found c = λ D g.
    let v : List ℕ = c.solve-solution.result.locator.items in
    let f = found_of c.args.t c.args.places c.args.syndromes.now v c.solve-solution.result.evaluator.items D
    c.requires.places
    c.requires.len c.solve-solution.ensures g in
    let n : length c.own_roots.new.powers.items + 1 ≡ length v =
    found_count c.args.places f.0 v c.solve-solution.result.evaluator.items D c.own_roots.new.powers.items (sym g.len)
    f.1
    (own c.as_slice-2.result.now v c.own_roots.new.powers.items c.args.places c.as_slice-2.ensures.value
    c.own_roots.ensures) in
    absurd (omega (arith, n, c.if-len-2.true, c.len-3.ensures.value, c.len-4.ensures.value))

pub fill-requires-clause-inside : goal.fill-requires-clause-inside
fill-requires-clause-inside c =
    own_roots_below c.as_slice-2.result.now (length c.as_slice-2.result.now - 1) c.args.places c.as_slice-4.result.now
    (c.as_slice-4.ensures.value ∙ c.own_roots.ensures)

pub returns-clause-few : goal.returns-clause-few
returns-clause-few c =
    let e = are_fixes-length c.args.places c.inv.result c.as_slice-3.result.now c.as_slice-4.result.now
    c.as_slice-4.result.now c.fill.new.fixes.items c.fill.ensures in
    let l : length c.own_roots.new.powers.items ≤ length c.as_slice-2.result.now - 1 =
    omega (
      arith,
      ap length c.own_roots.ensures,
      length-take (length c.as_slice-2.result.now - 1)
          (roots_of c.as_slice-2.result.now c.args.places),
    ) in
    omega (
      arith,
      e,
      ap length c.as_slice-4.ensures.value,
      l,
      ap length c.as_slice-2.ensures.value,
      c.solve-solution.ensures.degree,
      c.solve-solution.ensures.stop.within,
    )

pub returns-clause-inside : goal.returns-clause-inside
returns-clause-inside c = are_fixes-inside c.args.places c.inv.result c.as_slice-3.result.now c.as_slice-4.result.now
    c.as_slice-4.result.now c.fill.new.fixes.items c.fill.ensures

pub returns-clause-found : goal.returns-clause-found
returns-clause-found c = λ D g.
    let v : List ℕ = c.solve-solution.result.locator.items in
    let r : List ℕ = c.solve-solution.result.evaluator.items in
    let f = found_of c.args.t c.args.places c.args.syndromes.now v r D c.requires.places c.requires.len
    c.solve-solution.ensures g in
    let s : c.inv.result ≡ f.0 = inverse_is_unique c.last-constant.result c.inv.result f.0 c.inv.type_inv f.1.c_byte
    c.inv.ensures
    (ap (λ (x : ℕ). gf_mul x f.0) (c.last-constant.ensures ∙ ap (λ (u : List ℕ). poly u 0) c.as_slice.ensures.value)
    ∙ f.2) in
    let are : AreFixes c.args.places f.0 r c.as_slice-4.result.now c.as_slice-4.result.now c.fill.new.fixes.items =
    subst₂ (λ (x : ℕ) (u : List ℕ). AreFixes c.args.places x u c.as_slice-4.result.now c.as_slice-4.result.now
    c.fill.new.fixes.items) s c.as_slice-3.ensures.value c.fill.ensures in (
      refl,
      found_fixes c.args.places f.0 v r D c.as_slice-4.result.now c.fill.new.fixes.items (sym g.len) f.1
          (own c.as_slice-2.result.now v c.as_slice-4.result.now c.args.places c.as_slice-2.ensures.value
          (c.as_slice-4.ensures.value ∙ c.own_roots.ensures)) are,
    )

-- as many powers as the degree, if there are not fewer
all_found : (u v ps : List ℕ) (n : ℕ) → u ≡ v → 0 < length v → ps ≡ take (length u - 1) (roots_of u n)
    → length v ≤ length ps + 1 → length ps + 1 ≡ length v
all_found u v ps n e some h l =
    omega (
      arith,
      some,
      l,
      ap length (own u v ps n e h),
      length-take (length v - 1) (roots_of v n),
    )

pub returns-clause-sums : goal.returns-clause-sums
returns-clause-sums c = λ _.
    let v : List ℕ = c.solve-solution.result.locator.items in
    let r : List ℕ = c.solve-solution.result.evaluator.items in
    let ps : List ℕ = c.as_slice-4.result.now in
    let fs : List Fix = c.fill.new.fixes.items in
    let powers : ps ≡ take (length c.as_slice-2.result.now - 1) (roots_of c.as_slice-2.result.now c.args.places) =
    c.as_slice-4.ensures.value ∙ c.own_roots.ensures in
    let are : AreFixes c.args.places c.inv.result r ps ps fs =
    subst (λ (u : List ℕ). AreFixes c.args.places c.inv.result u ps ps fs) c.as_slice-3.ensures.value c.fill.ensures in
    sums_are_syndromes c.args.t c.args.places c.inv.result c.args.syndromes.now v r ps fs c.requires.places
    c.requires.len (λ k. (c.type_inv.syndromes k).fits) c.solve-solution.ensures
    (mul_comm c.inv.result (poly v 0) ∙ ap (λ (x : ℕ). gf_mul x c.inv.result)
    (sym (c.last-constant.ensures ∙ ap (λ (u : List ℕ). poly u 0) c.as_slice.ensures.value)) ∙ c.inv.ensures)
    (omega (arith, c.if-len.false, c.len.ensures.value, c.len-2.ensures.value))
    (all_found c.as_slice-2.result.now v ps c.args.places c.as_slice-2.ensures.value
    (omega (arith, c.solve-solution.ensures.degree)) powers
    (omega (
      arith,
      c.if-len-2.false,
      c.len-3.ensures.value,
      c.len-4.ensures.value,
      ap length c.as_slice-4.ensures.value,
    )))
    (found_are_roots v c.args.places (length v - 1) ps
    (own c.as_slice-2.result.now v ps c.args.places c.as_slice-2.ensures.value powers)) are
