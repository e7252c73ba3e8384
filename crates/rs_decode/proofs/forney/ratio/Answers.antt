-- The power's own locator is passed over, and each other one adds the logarithm of its gap. For
-- `ratio`.
use Rattle.std.proofs.Common.{◌≡◌, ◌≢◌, ℕ, zero, suc, ◌<◌, ◌≤◌, ◌+◌, ◌-◌, ◌*◌, ◌/◌, ◌%◌, List, get_or, drop}
use Rattle.std.proofs.Common.{length, arith, refl, sym, ap, ap₂, ◌∙◌}
use Rattle.std.proofs.lemmas.List.{drop_more, drop_all}
use Rattle.code_spec.specs.Field.{gf_add, gf_mul, gf_pow}
use Rattle.code_laws.proofs.Ring.{one_mul, mul_one, mul_assoc, pow_zero, pow_add, pow_below}
use Rattle.decoder_laws.specs.Forney.{gap_ratio}
use Rattle.decoder_laws.proofs.Forney.{gap_ratio_own, gap_ratio_other, gap_ratio_below, below_255-at}
use Rattle.decoder_laws.proofs.Powers.{pow_wrapped}
use Rattle.rs_decode.proofs.forney.ratio.Goals as goal
use Rattle.rs_decode.proofs.forney.ratio.Goals.{then-i-power, else-i-power}

pub loop-i-init : goal.loop-i-init
loop-i-init c = record {
  fits = omega arith;
  value = ap (λ (x : ℕ). gf_mul x (gap_ratio c.args.powers.now c.args.power)) (pow_zero 2)
      ∙ one_mul (gap_ratio c.args.powers.now c.args.power) (gap_ratio_below c.args.powers.now c.args.power);
}

pub log_gap-requires-clause-below : goal.log_gap-requires-clause-below
log_gap-requires-clause-below c = below_255-at c.args.powers.now c.loop-i.i-index (omega arith) c.requires.below

skipped : (js : List ℕ) (i j s s' : ℕ) → i < length js → get_or js i 0 ≡ j → s' ≡ s
    → gf_mul (gf_pow 2 s) (gap_ratio (drop i js) j) ≡ gap_ratio js j
    → gf_mul (gf_pow 2 s') (gap_ratio (drop (i + 1) js) j) ≡ gap_ratio js j
skipped js i j s s' l e es h =
    ap₂ gf_mul (ap (gf_pow 2) es) (sym (ap (λ (u : List ℕ). gap_ratio u j) (drop_more js i 0 l)
    ∙ gap_ratio_own (get_or js i 0) j (drop (i + 1) js) e)) ∙ h

taken : (js : List ℕ) (i j s s' g : ℕ) → i < length js → get_or js i 0 ≢ j
    → gf_pow 2 g ≡ gf_add 1 (gf_mul (gf_pow 2 (get_or js i 0)) (gf_pow 2 (255 - j))) → s' ≡ s + g
    → gf_mul (gf_pow 2 s) (gap_ratio (drop i js) j) ≡ gap_ratio js j
    → gf_mul (gf_pow 2 s') (gap_ratio (drop (i + 1) js) j) ≡ gap_ratio js j
taken js i j s s' g l n eg es h =
    ap (λ (z : ℕ). gf_mul z (gap_ratio (drop (i + 1) js) j))
    (ap (gf_pow 2) es ∙ pow_add 2 s g ∙ ap (gf_mul (gf_pow 2 s)) eg)
    ∙ mul_assoc (gf_pow 2 s) (gf_add 1 (gf_mul (gf_pow 2 (get_or js i 0)) (gf_pow 2 (255 - j))))
    (gap_ratio (drop (i + 1) js) j)
    ∙ ap (gf_mul (gf_pow 2 s)) (sym (ap (λ (u : List ℕ). gap_ratio u j) (drop_more js i 0 l)
    ∙ gap_ratio_other (get_or js i 0) j (drop (i + 1) js) n)) ∙ h

pub loop-i-preserved : goal.loop-i-preserved
loop-i-preserved c = elim c.if-i-power.branch [
  | then-i-power w ↦ record {
    fits = omega (arith, w.sum-is, w.log_gap.ensures.below, c.loop-i.invariant.fits);
    value = taken c.args.powers.now c.loop-i.i-index c.args.power c.loop-i.sum c.if-i-power.sum w.log_gap.result
        (omega arith) w.if-i-power.true w.log_gap.ensures.value w.sum-is c.loop-i.invariant.value;
  }
  | else-i-power w ↦ record {
    fits = omega (arith, w.sum-is, c.loop-i.invariant.fits);
    value = skipped c.args.powers.now c.loop-i.i-index c.args.power c.loop-i.sum c.if-i-power.sum
        (omega arith) w.if-i-power.false w.sum-is c.loop-i.invariant.value;
  }
]

-- whole turns change no power
turns : (q r : ℕ) → gf_pow 2 (255 * q + r) ≡ gf_pow 2 r
turns zero r = ap (gf_pow 2) (omega arith)
turns (suc q) r =
    sym (mul_one (gf_pow 2 (255 * suc q + r)) (pow_below 2 (255 * suc q + r)))
    ∙ ap (gf_mul (gf_pow 2 (255 * suc q + r))) (sym (pow_zero 2))
    ∙ sym (pow_wrapped (255 * suc q + r) 0 (255 * q + r) (omega arith)) ∙ turns q r

whole : (js : List ℕ) (i j s r : ℕ) → length js ≤ i → r ≡ s % 255
    → gf_mul (gf_pow 2 s) (gap_ratio (drop i js) j) ≡ gap_ratio js j → gf_pow 2 r ≡ gap_ratio js j
whole js i j s r l e h =
    ap (gf_pow 2) e ∙ sym (turns (s / 255) (s % 255)) ∙ ap (gf_pow 2) (omega arith)
    ∙ sym (mul_one (gf_pow 2 s) (pow_below 2 s))
    ∙ ap (λ (u : List ℕ). gf_mul (gf_pow 2 s) (gap_ratio u j)) (sym (drop_all i js l)) ∙ h

pub returns-clause-value : goal.returns-clause-value
returns-clause-value c = whole c.args.powers.now c.loop-i.i-index c.args.power c.loop-i.sum (c.loop-i.sum % 255)
    (omega arith) refl c.loop-i.invariant.value
