-- A place where the locator is zero is one root more, any other none; a block of 64 places has its
-- values at hand. For `many_roots`.
use Rattle.std.proofs.Common.{◌≡◌, ℕ, ◌+◌, ◌-◌, ◌*◌, ◌/◌, ◌%◌, ◌<◌, ◌≢◌, List, ◌++◌, ◌∷◌, [], length, get_or, arith}
use Rattle.std.proofs.Common.{sym, ap, ◌∙◌, suc}
use Rattle.code_spec.specs.Field.{gf_pow}
use Rattle.code_spec.specs.Code.{value_of}
use Rattle.decoder_laws.proofs.Chien.{root_taken, root_none}
use Rattle.rs_decode.proofs.roots.many_roots.Goals as goal
use Rattle.rs_decode.proofs.roots.many_roots.Goals.{then-place-eq0, else-place-eq0, then-values-place-eq0}
use Rattle.rs_decode.proofs.roots.many_roots.Goals.{else-values-place-eq0}

-- places of one block
same_block : (i : ℕ) → (i + 1) % 64 ≢ 0 → i / 64 * 64 ≡ (i + 1) / 64 * 64
same_block i n = omega arith

in_block : (i : ℕ) → i / 64 * 64 + i % 64 ≡ i
in_block i = omega arith

pub loop-place-preserved : goal.loop-place-preserved
loop-place-preserved c =
    let v : List ℕ = c.args.locator.now in
    let q : List ℕ = c.loop-place.powers.items in
    let q' : List ℕ = c.if-values-place-eq0.powers.items in
    let u : List ℕ = c.if-place-eq0.values in
    let d : ℕ = length v - 1 in
    let i : ℕ = c.loop-place.place in
    let n : ℕ = 256 - c.args.places in
    let m : ℕ = c.args.places - (i + 1) in
    let em : c.args.places - 1 - i ≡ m = omega arith in
    let es : c.args.places - i ≡ suc m = omega arith in
    let at : (j : ℕ) → j < 64 → get_or u j 0 ≡ value_of v (gf_pow 2 (n + i / 64 * 64 + j)) =
    elim c.if-place-eq0.branch [
      | then-place-eq0 w ↦ (λ j l.
          let e : n + i + j ≡ n + i / 64 * 64 + j = (let h = w.if-place-eq0.true in omega (arith, h, in_block i)) in
          ap (λ (x : List ℕ). get_or x j 0) w.values-is ∙ w.rising_values.ensures j
          (omega (arith, l, w.rising_values.auto.out, w.if-place-eq0.array_long))
          ∙ ap (λ (x : ℕ). value_of v (gf_pow 2 x)) e)
      | else-place-eq0 w ↦ (λ j l. ap (λ (x : List ℕ). get_or x j 0) w.values-is
          ∙ c.loop-place.invariant.ready w.if-place-eq0.false j l)
    ] in
    let el : n + i / 64 * 64 + i % 64 ≡ 255 - m = omega (arith, in_block i) in
    let value : get_or u (i % 64) 0 ≡ value_of v (gf_pow 2 (255 - m)) =
    at (i % 64) (omega arith) ∙ ap (λ (x : ℕ). value_of v (gf_pow 2 x)) el in
    let ready : (i + 1) % 64 ≢ 0 → (j : ℕ) → j < 64
    → get_or u j 0 ≡ value_of v (gf_pow 2 (n + (i + 1) / 64 * 64 + j)) =
    (λ ne j l. at j l ∙ ap (λ (x : ℕ). value_of v (gf_pow 2 (n + x + j))) (same_block i ne)) in
    elim c.if-values-place-eq0.branch [
      | then-values-place-eq0 w ↦ record {
        len = omega (
          arith,
          ap (λ u. length u.items) w.powers-is,
          w.push.ensures.len,
          c.len.ensures.value,
          c.loop-place.invariant.len,
        );
        all = root_taken v q q' d m c.args.places (c.args.places - i) es
            (ap (λ u. u.items) w.powers-is ∙ w.push.ensures.items ∙ ap (λ (x : ℕ). q ++ x ∷ []) em)
            (sym value ∙ w.if-values-place-eq0.true) c.loop-place.invariant.all;
        ready = ready;
      }
      | else-values-place-eq0 w ↦ record {
        len = omega (arith, ap (λ u. length u.items) w.powers-is, c.loop-place.invariant.len);
        all = root_none v q q' d m c.args.places (c.args.places - i) es
            (ap (λ u. u.items) w.powers-is) (λ e. w.if-values-place-eq0.false (value ∙ e)) c.loop-place.invariant.all;
        ready = ready;
      }
    ]
