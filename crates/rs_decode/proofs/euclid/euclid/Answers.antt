-- Rest and factor of each row keep their equation at each step, and at the end solve the key
-- equation. For `euclid`.
use Rattle.std.proofs.Common.{◌≡◌, ℕ, ◌+◌, ◌-◌, List, length, drop, refl, ap, ◌∙◌, arith}
use Rattle.decoder_laws.specs.Polynomials.{poly}
use Rattle.rs_decode.proofs.Rows.{rows_start, rows_step, rows_end}
use Rattle.decoder_laws.proofs.Polynomials.{fewer_zeros, poly-all_zero}
use Rattle.rs_decode.proofs.euclid.euclid.Goals as goal

pub loop-b-init : goal.loop-b-init
loop-b-init c =
    let none : List ℕ = c.args.factor_a.now in
    rows_start c.args.t (poly c.args.rest_b.now) c.args.factor_b.now none c.args.rest_b.now c.args.rest_a.now
    c.leading-b.result c.requires.bytes c.requires.one
    (poly-all_zero none (fewer_zeros (length none) (c.args.t + 16) none (omega arith) c.requires.none))
    refl c.requires.power c.leading-b.ensures.after c.leading-b.ensures.within c.leading-b.ensures.zeros
    c.leading-b.ensures.some c.requires.one_zeros c.requires.power_zeros c.requires.none

-- where the locator begins in its row
cut : (t n : ℕ) (w v : List ℕ) → length v ≡ t + 16 → w ≡ drop (length v + 14 - n) v → w ≡ drop (t + 30 - n) v
cut t n w v l e = let i : length v + 14 - n ≡ t + 30 - n = omega arith in e ∙ ap (λ (j : ℕ). drop j v) i

pub returns-then-a-t : goal.returns-then-a-t
returns-then-a-t c =
    let t : ℕ = c.args.t in
    let S = poly c.args.rest_b.now in
    let v : List ℕ = c.reduce.new.old_factor in
    let r : List ℕ = c.reduce.new.old_rest in
    let lv : length v ≡ t + 16 = omega arith in
    let lb : length c.loop-b.factor_b ≡ t + 16 = omega arith in
    let rows = rows_step t S c.loop-b.factor_b c.loop-b.factor_a c.loop-b.rest_b c.loop-b.rest_a v r
    c.loop-b.a c.loop-b.b c.leading-a.result c.loop-b.invariant c.loop-b-test.true c.reduce.ensures.step
    (omega (arith, c.leading-a.ensures.after)) c.leading-a.ensures.within c.leading-a.ensures.some
    c.leading-a.ensures.zeros
    (fewer_zeros (t + 30 - c.loop-b.b) (length c.loop-b.factor_b + 14 - c.loop-b.b) v (omega arith)
    c.reduce.ensures.room) in
    rows_end t S v c.loop-b.factor_b r c.loop-b.rest_b c.loop-b.b c.leading-a.result
    c.trimmed.result.locator.items c.trimmed.result.evaluator.items rows c.if-a-t.true lv lb (omega arith) (omega arith)
    (cut t c.loop-b.b c.trimmed.result.locator.items v lv c.trimmed.ensures.locator) c.trimmed.ensures.evaluator

pub loop-b-preserved : goal.loop-b-preserved
loop-b-preserved c =
    let t : ℕ = c.args.t in
    let S = poly c.args.rest_b.now in
    let v : List ℕ = c.reduce.new.old_factor in
    let r : List ℕ = c.reduce.new.old_rest in
    let lv : length v ≡ t + 16 = omega arith in
    let lb : length c.loop-b.factor_b ≡ t + 16 = omega arith in
    let rows = rows_step t S c.loop-b.factor_b c.loop-b.factor_a c.loop-b.rest_b c.loop-b.rest_a v r
    c.loop-b.a c.loop-b.b c.leading-a.result c.loop-b.invariant c.loop-b-test.true c.reduce.ensures.step
    (omega (arith, c.leading-a.ensures.after)) c.leading-a.ensures.within c.leading-a.ensures.some
    c.leading-a.ensures.zeros
    (fewer_zeros (t + 30 - c.loop-b.b) (length c.loop-b.factor_b + 14 - c.loop-b.b) v (omega arith)
    c.reduce.ensures.room) in
    rows_step t S v c.loop-b.factor_b r c.loop-b.rest_b c.reduce-in-loop-b.new.old_factor
    c.reduce-in-loop-b.new.old_rest c.loop-b.b c.leading-a.result c.leading-b-in-loop-b.result rows c.if-a-t.false
    c.reduce-in-loop-b.ensures.step (omega (arith, c.leading-b-in-loop-b.ensures.after))
    c.leading-b-in-loop-b.ensures.within c.leading-b-in-loop-b.ensures.some c.leading-b-in-loop-b.ensures.zeros
    (fewer_zeros (t + 30 - c.leading-a.result) (length v + 14 - c.leading-a.result) c.reduce-in-loop-b.new.old_factor
    (omega arith) c.reduce-in-loop-b.ensures.room)

pub returns : goal.returns
returns c =
    let t : ℕ = c.args.t in
    let lv : length c.loop-b.factor_b ≡ t + 16 = omega arith in
    rows_end t (poly c.args.rest_b.now) c.loop-b.factor_b c.loop-b.factor_a c.loop-b.rest_b c.loop-b.rest_a
    c.loop-b.a c.loop-b.b c.trimmed-2.result.locator.items c.trimmed-2.result.evaluator.items c.loop-b.invariant
    c.loop-b-test.false lv (omega arith) (omega arith) (omega arith)
    (cut t c.loop-b.a c.trimmed-2.result.locator.items c.loop-b.factor_b lv c.trimmed-2.ensures.locator)
    c.trimmed-2.ensures.evaluator
