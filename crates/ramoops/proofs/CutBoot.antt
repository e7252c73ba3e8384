-- The stores of a cut boot, zone by zone
use Rattle.std.proofs.Common.{◌≡◌, ℕ, zero, suc, Option, None, append_assoc, append-nil, ◌+◌, ◌-◌, min, nat_le, Bool}
use Rattle.std.proofs.Common.{true, false, ◌&&◌, List, [], ◌∷◌, ◌++◌, length, take, slice_get, refl, sym, ap, ◌∙◌}
use Rattle.std.proofs.Common.{subst, arith, inl, inr, Some, length-set, length-append}
use Rattle.std.proofs.lemmas.Bool.{cases_lt}
use Rattle.std.proofs.lemmas.Bool.Decides.{nat_tests}
use Rattle.std.proofs.lemmas.Option.{slice_get_within}
use Rattle.std.specs.List.{take-map}
use Rattle.list_laws.proofs.Elements.{take-append}
use Rattle.std.proofs.lemmas.List.{take_all, length-map}
use Rattle.prz_region.proofs.Cuts.{span-stored, span-other}
use Rattle.zone_spec.specs.declared.Zone.{Zone}
use Rattle.zone_spec.specs.Reading.{zone_reading}
use Rattle.zone_spec.specs.Stores.{Store, after_stores}
use Rattle.zone_spec.specs.Boot.{boot_stores, boot_fixes}
use Rattle.prz_region.specs.CutRegion.{CutRegion, span, stored}
use Rattle.prz_region.specs.Made.{Write, in_span}
use Rattle.ramoops.specs.Made.{boot_writes, boot_stores_in}
use Rattle.ramoops.specs.declared.booting.Passed.{Passed}
use Rattle.ramoops.specs.declared.booting.BootProgress.{BootProgress}
use Rattle.ramoops.specs.Parting.{stores_in, stores_before, left_for, Passes, PartsTo}
use Rattle.ramoops.proofs.Lists.{get-pushed}
use Rattle.ramoops.proofs.BootStores.{writes_next, writes_none}

-- the stores before a zone and its own are those before the next
pub before_next : (layout : List Zone) (cut : CutRegion) (n : ℕ) (z : Zone) → slice_get layout n ≡ Some z
    → stores_before layout cut (n + 1) ≡ stores_before layout cut n + length (boot_stores z (span cut n))
unfolding stores_before
before_next layout cut n z e =
    (let m : n + 1 ≡ suc n = omega arith in ap (stores_before layout cut) m)
    ∙ ap (λ o. stores_before layout cut n + stores_in o (span cut n)) e

pub before_none : (layout : List Zone) (cut : CutRegion) → stores_before layout cut 0 ≡ 0
unfolding stores_before
before_none layout cut = refl

-- as many as are counted
writes_length : (layout : List Zone) (cut : CutRegion) (n : ℕ) → length (boot_writes layout cut n)
    ≡ stores_before layout cut n
unfolding boot_writes stores_before
writes_length layout cut zero = refl
writes_length layout cut (suc n) =
    let own = own_length (slice_get layout n) in
    let more = writes_length layout cut n in
    length-append (boot_writes layout cut n) (in_span n (boot_stores_in (slice_get layout n) (span cut n)))
    ∙ omega (arith, own, more)
  where
    own_length : (o : Option Zone) → length (in_span n (boot_stores_in o (span cut n))) ≡ stores_in o (span cut n)
    own_length None = refl
    own_length (Some z) = length-map (boot_stores z (span cut n))
        (λ (s : Store). record { span = n; place = s.place; values = s.bytes })

pub parts_none : (layout : List Zone) (cut : CutRegion) (limit : ℕ)
    → PartsTo layout cut cut limit 0 (record { left = limit; is_whole = true }) []
parts_none layout cut limit = record {
  count = refl;
  rest = refl;
  made = λ i z below e. absurd (omega (arith, below));
  others = λ i above. refl;
  stores = sym (append-nil cut.made)
      ∙ ap (λ (ws : List (Write ℕ)). cut.made ++ ws) (sym (take_all limit [] (omega arith)))
      ∙ ap (λ (ws : List (Write ℕ)). cut.made ++ take limit ws) (sym (writes_none layout cut));
  left_is = (let b = before_none layout cut in omega (arith, b));
  whole = (let b = before_none layout cut in grind (arith, nat_tests, b));
  passed_len = refl;
  passes = λ i z p below e f. absurd (omega (arith, below));
}

-- all was made so far, and of the next zone
whole_next : (whole : Bool) (before next own all left limit : ℕ) → whole ≡ nat_le before limit → all ≡ own
    → next ≡ before + own → left ≡ limit - before → (whole && nat_le all left) ≡ nat_le next limit
whole_next whole before next own all left limit w a s l = ap (λ (t : Bool). t && nat_le all left) w
    ∙ by (nat_le before limit) (nat_le all left) (nat_le next limit) refl refl refl
  where
    by : (x y t : Bool) → nat_le before limit ≡ x → nat_le all left ≡ y → nat_le next limit ≡ t → (x && y) ≡ t
    by true true true ex ey et = refl
    by true true false ex ey et = absurd (grind (arith, nat_tests))
    by true false true ex ey et = absurd (grind (arith, nat_tests))
    by true false false ex ey et = refl
    by false y true ex ey et = absurd (grind (arith, nat_tests))
    by false y false ex ey et = refl

-- one zone more
pub parts_next : (layout : List Zone) (old mid new : CutRegion) (limit n : ℕ) (progress : BootProgress)
    (passed after : List Passed) (z : Zone) (p : Passed) → PartsTo layout old mid limit n progress passed
    → length old.spans ≡ length layout → slice_get layout n ≡ Some z
    → new ≡ stored mid n (take progress.left (boot_stores z (span mid n)))
    → p.left ≡ progress.left
    → p.words ≡ (zone_reading z (span mid n)).words → p.settled.made
    ≡ min progress.left (length (boot_stores z (span mid n))) → p.settled.all ≡ length (boot_stores z (span mid n))
    → p.settled.erase_at ≡ length (boot_fixes z (span mid n)) → after ≡ passed ++ p ∷ []
    → PartsTo layout old new limit (n + 1) (record {
      left = progress.left - p.settled.made;
      is_whole = progress.is_whole && nat_le p.settled.all progress.left;
    }) after
parts_next layout old mid new limit n progress passed after z p to len ez e left words made all erase pushed =
    let same : span mid n ≡ span old n = to.others n (omega arith) in
    let next = before_next layout old n z ez in
    let count : length (boot_stores z (span mid n)) ≡ length (boot_stores z (span old n)) =
    ap (λ b. length (boot_stores z b)) same in
    record {
      count = ap (λ (c : CutRegion). length c.spans) e ∙ length-set mid.spans n _ ∙ to.count;
      rest = ap (λ (c : CutRegion). c.rest) e ∙ to.rest;
      made = λ i y below ey. elim (cases_lt i n) [
        | inl l ↦ ap (λ (c : CutRegion). span c i) e ∙ span-other mid n i _ (λ k. omega (arith, l, k))
            ∙ to.made i y l ey
        | inr g ↦ (let at : i ≡ n = omega (arith, below, g) in
            let zy : z ≡ y = (let s : Some z ≡ Some y = sym ez ∙ ap (slice_get layout) (sym at) ∙ ey in cc) in
            ap (λ (k : ℕ). span new k) at ∙ ap (λ (c : CutRegion). span c n) e
            ∙ span-stored mid n _ (let a = slice_get_within layout n z ez in let b = to.count in
            omega (arith, a, b, len))
            ∙ ap (λ b. after_stores b (take progress.left (boot_stores z b))) same
            ∙ ap (λ k. after_stores (span old n) (take k (boot_stores z (span old n)))) to.left_is
            ∙ ap (λ (x : Zone). after_stores (span old n) (take (left_for layout old limit n)
            (boot_stores x (span old n)))) zy
            ∙ ap (λ (k : ℕ). after_stores (span old k) (take (left_for layout old limit k)
            (boot_stores y (span old k)))) (sym at))
      ];
      others = λ i above. ap (λ (c : CutRegion). span c i) e ∙ span-other mid n i _ (λ k. omega (arith, above, k))
          ∙ to.others i (omega (arith, above));
      stores = ap (λ (c : CutRegion). c.made) e
          ∙ ap (λ (b : List ℕ). mid.made ++ in_span n (take progress.left (boot_stores z b))) same
          ∙ ap (λ (ws : List (Write ℕ)). ws ++ in_span n (take progress.left (boot_stores z (span old n)))) to.stores
          ∙ append_assoc old.made (take limit (boot_writes layout old n)) _
          ∙ ap (λ (ws : List (Write ℕ)). old.made ++ (take limit (boot_writes layout old n) ++ ws))
          (sym (take-map (λ (s : Store). record { span = n; place = s.place; values = s.bytes }) progress.left
          (boot_stores z (span old n)))
          ∙ ap (λ (k : ℕ). take k (in_span n (boot_stores z (span old n)))) (to.left_is
          ∙ ap (λ (k : ℕ). limit - k) (sym (writes_length layout old n))))
          ∙ ap (λ (ws : List (Write ℕ)). old.made ++ ws)
          (sym (take-append limit (boot_writes layout old n) (in_span n (boot_stores z (span old n))))
          ∙ ap (λ (ws : List (Write ℕ)). take limit ws) (sym (writes_next layout old n z ez)));
      left_is = (let l = to.left_is in omega (arith, l, made, count, next));
      whole = whole_next progress.is_whole (stores_before layout old n) (stores_before layout old (n + 1))
          (length (boot_stores z (span old n))) p.settled.all progress.left limit to.whole (all ∙ count)
          next to.left_is;
      passed_len = (let a = ap length pushed in let b = length-append passed (p ∷ []) in let c = to.passed_len in
          omega (arith, a, b, c));
      passes = λ i y q below ey eq. elim (get-pushed passed p i q (ap (λ ps. slice_get ps i) (sym pushed) ∙ eq)) [
        | inl o ↦ to.passes i y q (let a = o.0 in let c = to.passed_len in omega (arith, a, c)) ey o.1
        | inr a ↦ (let at : i ≡ n = a.0 ∙ to.passed_len in
            let zy : z ≡ y = (let s : Some z ≡ Some y = sym ez ∙ ap (slice_get layout) (sym at) ∙ ey in cc) in
            let here : Passes z (span old n) (left_for layout old limit n) p = record {
              left_is = left ∙ to.left_is;
              words = words ∙ ap (λ b. (zone_reading z b).words) same;
              all = all ∙ count;
              erase_at = erase ∙ ap (λ b. length (boot_fixes z b)) same;
            } in
            subst (λ (x : Passed). Passes y (span old i) (left_for layout old limit i) x) a.1
            (subst (λ (k : ℕ). Passes y (span old k) (left_for layout old limit k) p) (sym at)
            (subst (λ (x : Zone). Passes x (span old n) (left_for layout old limit n) p) zy here)))
      ];
    }
