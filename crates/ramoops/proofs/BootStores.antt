-- The stores of a boot, zone by zone
use Rattle.std.proofs.Common.{◌≡◌, ℕ, suc, ◌+◌, ◌<◌, ◌≤◌, List, [], ◌++◌, append_assoc, append-nil, length, take}
use Rattle.std.proofs.Common.{slice_get, get_or, refl, sym, ap, ◌∙◌, subst, arith, inl, inr, Option, Some, length-set}
use Rattle.std.proofs.lemmas.Bool.{cases_lt}
use Rattle.std.proofs.lemmas.List.{take_all}
use Rattle.std.proofs.lemmas.Option.{slice_get-get_or, slice_get_within}
use Rattle.prz_region.proofs.Cuts.{span-stored, span-other}
use Rattle.zone_spec.specs.declared.Zone.{Zone}
use Rattle.zone_spec.specs.Reading.{ZoneReading, zone_reading}
use Rattle.zone_spec.specs.Stores.{Store, after_stores}
use Rattle.zone_spec.specs.Boot.{boot_stores}
use Rattle.prz_region.specs.CutRegion.{CutRegion, span, stored}
use Rattle.prz_region.specs.Made.{Write, in_span}
use Rattle.ramoops.specs.Made.{boot_writes, boot_stores_in}
use Rattle.ramoops.specs.Booting.{SpansFit, SettlesTo}
use Rattle.prz_region.proofs.CutLoop.{no_zone}

-- the zone at a place of a loop over the saved readings
pub zone_is : (zs layout : List Zone) (i end readings : ℕ) → zs ≡ layout → i < end → end ≡ readings
    → readings ≡ length layout → slice_get layout i ≡ Some (get_or zs i no_zone)
zone_is zs layout i end readings e below a b = ap (λ (l : List Zone). slice_get l i) (sym e)
    ∙ slice_get-get_or zs i no_zone (let n = ap length e in omega (arith, n, below, a, b))

-- the stores of one zone more
pub writes_next : (layout : List Zone) (cut : CutRegion) (n : ℕ) (z : Zone) → slice_get layout n ≡ Some z
    → boot_writes layout cut (n + 1) ≡ boot_writes layout cut n ++ in_span n (boot_stores z (span cut n))
unfolding boot_writes
writes_next layout cut n z e =
    (let m : n + 1 ≡ suc n = omega arith in ap (boot_writes layout cut) m)
    ∙ ap (λ (o : Option Zone). boot_writes layout cut n ++ in_span n (boot_stores_in o (span cut n))) e

pub writes_none : (layout : List Zone) (cut : CutRegion) → boot_writes layout cut 0 ≡ []
unfolding boot_writes
writes_none layout cut = refl

pub settles_none : (layout : List Zone) (cut : CutRegion) → SettlesTo layout cut cut 0
settles_none layout cut = record {
  count = refl;
  rest = refl;
  made = λ i z below e. absurd (omega (arith, below));
  others = λ i above. refl;
  stores = sym (append-nil cut.made) ∙ ap (λ (ws : List (Write ℕ)). cut.made ++ ws) (sym (writes_none layout cut));
}

-- one zone more
pub settles_next : (layout : List Zone) (old mid new : CutRegion) (n limit : ℕ) (z : Zone)
    → SettlesTo layout old mid n → length old.spans ≡ length layout → slice_get layout n ≡ Some z
    → length (boot_stores z (span mid n)) ≤ limit → new ≡ stored mid n (take limit (boot_stores z (span mid n)))
    → SettlesTo layout old new (n + 1)
settles_next layout old mid new n limit z to len ez most e = record {
  count = ap (λ (c : CutRegion). length c.spans) e ∙ length-set mid.spans n _ ∙ to.count;
  rest = ap (λ (c : CutRegion). c.rest) e ∙ to.rest;
  made = λ i y below ey. elim (cases_lt i n) [
    | inl l ↦ ap (λ (c : CutRegion). span c i) e ∙ span-other mid n i _ (λ k. omega (arith, l, k)) ∙ to.made i y l ey
    | inr g ↦ (let at : i ≡ n = omega (arith, below, g) in
        let same : z ≡ y = (let s : Some z ≡ Some y = sym ez ∙ ap (slice_get layout) (sym at) ∙ ey in cc) in
        ap (λ (k : ℕ). span new k) at ∙ ap (λ (c : CutRegion). span c n) e
        ∙ span-stored mid n _ (let a = slice_get_within layout n z ez in let b = to.count in omega
        (arith, a, b, len))
        ∙ ap (after_stores (span mid n)) (take_all limit (boot_stores z (span mid n)) most)
        ∙ ap (λ (b : List ℕ). after_stores b (boot_stores z b)) (to.others n (omega arith))
        ∙ ap (λ (x : Zone). after_stores (span old n) (boot_stores x (span old n))) same
        ∙ ap (λ (k : ℕ). after_stores (span old k) (boot_stores y (span old k))) (sym at))
  ];
  others = λ i above. ap (λ (c : CutRegion). span c i) e ∙ span-other mid n i _ (λ k. omega (arith, above, k))
      ∙ to.others i (omega (arith, above));
  stores = ap (λ (c : CutRegion). c.made) e
      ∙ ap (λ (ss : List Store). mid.made ++ in_span n ss) (take_all limit (boot_stores z (span mid n)) most
      ∙ ap (λ (b : List ℕ). boot_stores z b) (to.others n (omega arith)))
      ∙ ap (λ (ws : List (Write ℕ)). ws ++ in_span n (boot_stores z (span old n))) to.stores
      ∙ append_assoc old.made (boot_writes layout old n) (in_span n (boot_stores z (span old n)))
      ∙ ap (λ (ws : List (Write ℕ)). old.made ++ ws) (sym (writes_next layout old n z ez));
}

-- what a store of the next zone needs
pub record Next (z : Zone) (bytes : List ℕ) (readings : List (Option ZoneReading)) (n : ℕ) : Type 0 where
  pub size : length bytes ≡ z.size
  pub reading : slice_get readings n ≡ Some (Some (zone_reading z bytes))

pub next_zone : (layout : List Zone) (old now : CutRegion) (readings : List (Option ZoneReading)) (n : ℕ) (z : Zone)
    → SpansFit layout old.spans
    → ((i : ℕ) (y : Zone) (bytes : List ℕ) → slice_get layout i ≡ Some y → slice_get old.spans i ≡ Some bytes
    → slice_get readings i ≡ Some (Some (zone_reading y bytes)))
    → span now n ≡ span old n → slice_get layout n ≡ Some z → Next z (span now n) readings n
next_zone layout old now readings n z fit logs same ez =
    let gb : slice_get old.spans n ≡ Some (span old n) =
    slice_get-get_or old.spans n [] (let a = slice_get_within layout n z ez in let b = fit.count in
    omega (arith, a, b)) in
    subst (λ (b : List ℕ). Next z b readings n) (sym same)
    (record { size = fit.sizes n z (span old n) ez gb; reading = logs n z (span old n) ez gb })
