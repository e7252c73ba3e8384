-- What is left of a scan, place by place
use Rattle.std.proofs.Common.{◌≡◌, ℕ, suc, ◌+◌, ◌-◌, ◌/◌, ◌<◌, ◌≤◌, ◌⊎◌, inl, inr, List, [], ◌∷◌, ◌++◌, length, drop}
use Rattle.std.proofs.Common.{get_or, refl, sym, ap, ◌∙◌, subst, arith, Bool, true, false, if◌then◌else◌, nat_lt}
use Rattle.std.proofs.Common.{Option, Some, None}
use Rattle.std.proofs.lemmas.Bool.{lt-ltb, ltb-true}
use Rattle.std.proofs.lemmas.Bool.Decides.{nat_tests}
use Rattle.std.specs.Prelude.{flat_map, filter_map, slice_get}
use Rattle.std.specs.List.{range_with_len}
use Rattle.zone_spec.specs.declared.Zone.{Zone}
use Rattle.salvage_spec.specs.Rings.{rings, shapes}
use Rattle.salvage_spec.specs.declared.FoundRing.{FoundRing}
use Rattle.std.specs.List.{cons_option}
use Rattle.std.proofs.lemmas.List.{drop_more}
use Rattle.salvage.specs.declared.scan.Hit.{Hit}
use Rattle.salvage.specs.Scans.{Scanned, places, rings_at, rings_from}
use Rattle.salvage.proofs.ZoneShapes.{drop_past}

-- a number is below another or not
below : (a b : ℕ) → ((nat_lt a b ≡ true) × (a < b)) ⊎ ((nat_lt a b ≡ false) × (b ≤ a))
below a b = by (nat_lt a b) refl
  where
    by : (t : Bool) → nat_lt a b ≡ t → ((nat_lt a b ≡ true) × (a < b)) ⊎ ((nat_lt a b ≡ false) × (b ≤ a))
    by true e = inl (e, ltb-true a b e)
    by false e = inr (e, grind (arith, nat_tests, e))

module _ (dump : List ℕ) (kinds : List Zone) where
  pub tail_is : (n i : ℕ) → flat_map (rings_at dump kinds) (range_with_len i (n - i))
      ≡ (if nat_lt i n then rings_at dump kinds i else [])
      ++ flat_map (rings_at dump kinds) (range_with_len (i + 1) (n - (i + 1)))
  tail_is n i = by (below i n)
    where
      by : ((nat_lt i n ≡ true) × (i < n)) ⊎ ((nat_lt i n ≡ false) × (n ≤ i))
          → flat_map (rings_at dump kinds) (range_with_len i (n - i))
          ≡ (if nat_lt i n then rings_at dump kinds i else [])
          ++ flat_map (rings_at dump kinds) (range_with_len (i + 1) (n - (i + 1)))
      by (inl h) =
          let e : n - i ≡ suc (n - (i + 1)) = (let l = h.1 in omega arith) in
          ap (λ (k : ℕ). flat_map (rings_at dump kinds) (range_with_len i k)) e
          ∙ sym (ap (λ (b : Bool). (if b then rings_at dump kinds i else [])
          ++ flat_map (rings_at dump kinds) (range_with_len (i + 1) (n - (i + 1)))) h.0)
      by (inr h) =
          let e : n - i ≡ 0 = (let l = h.1 in omega arith) in
          let f : n - (i + 1) ≡ 0 = (let l = h.1 in omega arith) in
          ap (λ (k : ℕ). flat_map (rings_at dump kinds) (range_with_len i k)) e
          ∙ sym (ap (λ (b : Bool). (if b then rings_at dump kinds i else [])
          ++ flat_map (rings_at dump kinds) (range_with_len (i + 1) (n - (i + 1)))) h.0
          ∙ ap (λ (k : ℕ). flat_map (rings_at dump kinds) (range_with_len (i + 1) k)) f)

  -- nothing here: the next place
  pub next_place : (i index : ℕ) → rings_at dump (drop index kinds) i ≡ []
      → rings_from dump kinds i index ≡ rings_from dump kinds (i + 1) 0
  unfolding rings_from
  next_place i index h =
      ap (λ (xs : List FoundRing). xs ++ flat_map (rings_at dump kinds) (range_with_len (i + 1) (places dump - (i +
      1))))
      (ap (λ (xs : List FoundRing). if nat_lt i (places dump) then xs else []) h ∙ nothing (nat_lt i (places dump)))
      ∙ tail_is (places dump) (i + 1)
    where
      nothing : (b : Bool) → ◌≡◌ {A = List FoundRing} (if b then [] else []) []
      nothing true = refl
      nothing false = refl

  -- a ring here
  pub here : (i index k : ℕ) (r : FoundRing) → i < places dump
      → rings_at dump (drop index kinds) i ≡ r ∷ rings_at dump (drop (k + 1) kinds) i
      → rings_from dump kinds i index ≡ r ∷ rings_from dump kinds i (k + 1)
  unfolding rings_from
  here i index k r l h =
      ap (λ (xs : List FoundRing). (if nat_lt i (places dump) then xs else [])
      ++ flat_map (rings_at dump kinds) (range_with_len (i + 1) (places dump - (i + 1)))) h
      ∙ inside (nat_lt i (places dump)) (lt-ltb i (places dump) l)
    where
      inside : (b : Bool) → b ≡ true
          → (if b then r ∷ rings_at dump (drop (k + 1) kinds) i else [])
          ++ flat_map (rings_at dump kinds) (range_with_len (i + 1) (places dump - (i + 1)))
          ≡ r ∷ ((if b then rings_at dump (drop (k + 1) kinds) i else [])
          ++ flat_map (rings_at dump kinds) (range_with_len (i + 1) (places dump - (i + 1))))
      inside true e = refl
      inside false e = cc

  pub past_end : (i index : ℕ) → places dump ≤ i → rings_from dump kinds i index ≡ []
  unfolding rings_from
  past_end i index l = by (below i (places dump))
    where
      f : places dump - (i + 1) ≡ 0
      f = omega arith

      by : ((nat_lt i (places dump) ≡ true) × (i < places dump)) ⊎ ((nat_lt i (places dump) ≡ false) × (places dump
          ≤ i))
          → (if nat_lt i (places dump) then rings_at dump (drop index kinds) i else [])
          ++ flat_map (rings_at dump kinds) (range_with_len (i + 1) (places dump - (i + 1))) ≡ []
      by (inl h) = absurd (let k = h.1 in omega arith)
      by (inr h) =
          ap (λ (b : Bool). (if b then rings_at dump (drop index kinds) i else [])
          ++ flat_map (rings_at dump kinds) (range_with_len (i + 1) (places dump - (i + 1)))) h.0
          ∙ ap (λ (k : ℕ). flat_map (rings_at dump kinds) (range_with_len (i + 1) k)) f

-- all rings, from the first place on
pub all_rings : (dump : List ℕ) (zones : List Zone) → rings_from dump (shapes zones) 0 0 ≡ rings dump zones
unfolding rings_from rings
all_rings dump zones =
    let e : places dump ≡ places dump - 0 = omega arith in
    sym (ap (λ (k : ℕ). flat_map (rings_at dump (shapes zones)) (range_with_len 0 k)) e
    ∙ tail_is dump (shapes zones) (places dump) 0)

pub first_of_rest : (xs ys : List FoundRing) (x : FoundRing) → xs ≡ x ∷ ys → Some x ≡ slice_get xs 0
first_of_rest xs ys x e = sym (ap (λ (l : List FoundRing). slice_get l 0) e)

pub rest_of_rest : (xs ys : List FoundRing) (x : FoundRing) → xs ≡ x ∷ ys → ys ≡ drop 1 xs
rest_of_rest xs ys x e = sym (ap (λ (l : List FoundRing). drop 1 l) e)

pub none_of_rest : (xs : List FoundRing) → xs ≡ [] → None ≡ slice_get xs 0
none_of_rest xs e = sym (ap (λ (l : List FoundRing). slice_get l 0) e)

pub no_rest : (xs : List FoundRing) → xs ≡ [] → [] ≡ drop 1 xs
no_rest xs e = sym (ap (λ (l : List FoundRing). drop 1 l) e)

-- ---- the shapes at one place
pub passed : (g : Zone → Option FoundRing) (xs : List Zone) (i : ℕ) (x : Zone) → i < length xs → x ≡ get_or xs i x
    → g x ≡ None → filter_map g (drop i xs) ≡ filter_map g (drop (i + 1) xs)
passed g xs i x l ex e =
    ap (filter_map g) (drop_more xs i x l)
    ∙ ap (λ (o : Option FoundRing). cons_option o (filter_map g (drop (i + 1) xs))) (ap g (sym ex) ∙ e)

pub found_one : (g : Zone → Option FoundRing) (xs : List Zone) (i : ℕ) (x : Zone) (r : FoundRing) → i < length xs
    → x ≡ get_or xs i x → g x ≡ Some r → filter_map g (drop i xs) ≡ r ∷ filter_map g (drop (i + 1) xs)
found_one g xs i x r l ex e =
    ap (filter_map g) (drop_more xs i x l)
    ∙ ap (λ (o : Option FoundRing). cons_option o (filter_map g (drop (i + 1) xs))) (ap g (sym ex) ∙ e)

pub ended : (g : Zone → Option FoundRing) (xs : List Zone) (i : ℕ) → length xs ≤ i → filter_map g (drop i xs) ≡ []
ended g xs i l = ap (filter_map g) (drop_past i xs l)

-- ---- what a call leaves
pub after_hit : (old : Scanned) (image : List ℕ) (zones kinds : List Zone) (p i : ℕ) (dump : List ℕ) (ks : List Zone)
    (h : Hit) → record { image = image; zones = zones; rest = rings_from image kinds p i } ≡ old → dump ≡ image
    → ks ≡ kinds → rings_from dump ks p i ≡ h.ring ∷ rings_from dump ks h.place (h.index + 1)
    → (Some h.ring ≡ slice_get old.rest 0)
    × (◌≡◌ {A = Scanned} (record { image = image; zones = zones; rest = rings_from image kinds h.place (h.index + 1) })
    (record { image = old.image; zones = old.zones; rest = drop 1 old.rest }))
after_hit old image zones kinds p i dump ks h view ed ek e =
    let same : rings_from image kinds p i ≡ h.ring ∷ rings_from image kinds h.place (h.index + 1) =
    sym (ap (λ (d : List ℕ). rings_from d ks p i) ed ∙ ap (λ (k : List Zone). rings_from image k p i) ek) ∙ e
    ∙ ap (λ (d : List ℕ). h.ring ∷ rings_from d ks h.place (h.index + 1)) ed
    ∙ ap (λ (k : List Zone). h.ring ∷ rings_from image k h.place (h.index + 1)) ek in
    subst (λ (v : Scanned). (Some h.ring ≡ slice_get v.rest 0)
    × (◌≡◌ {A = Scanned} (record { image = image; zones = zones; rest = rings_from image kinds h.place (h.index + 1) })
    (record { image = v.image; zones = v.zones; rest = drop 1 v.rest }))) view (
      first_of_rest (rings_from image kinds p i) (rings_from image kinds h.place (h.index + 1)) h.ring same,
      ap (λ (r : List FoundRing). let v : Scanned = record { image = image; zones = zones; rest = r } in v)
          (rest_of_rest (rings_from image kinds p i) (rings_from image kinds h.place (h.index + 1)) h.ring same),
    )

pub after_none : (old : Scanned) (image : List ℕ) (zones kinds : List Zone) (p i q : ℕ) (dump : List ℕ)
    (ks : List Zone) → record { image = image; zones = zones; rest = rings_from image kinds p i } ≡ old → dump ≡ image
    → ks ≡ kinds → rings_from dump ks p i ≡ [] → q ≡ (length dump + 1) / 2
    → (◌≡◌ {A = Option FoundRing} None (slice_get old.rest 0))
    × (◌≡◌ {A = Scanned} (record { image = image; zones = zones; rest = rings_from image kinds q i })
    (record { image = old.image; zones = old.zones; rest = drop 1 old.rest }))
after_none old image zones kinds p i q dump ks view ed ek e eq =
    let same : rings_from image kinds p i ≡ [] =
    sym (ap (λ (d : List ℕ). rings_from d ks p i) ed ∙ ap (λ (k : List Zone). rings_from image k p i) ek) ∙ e in
    let at_end : q ≡ places image = eq ∙ ap (λ (d : List ℕ). (length d + 1) / 2) ed in
    subst (λ (v : Scanned). (◌≡◌ {A = Option FoundRing} None (slice_get v.rest 0))
    × (◌≡◌ {A = Scanned} (record { image = image; zones = zones; rest = rings_from image kinds q i })
    (record { image = v.image; zones = v.zones; rest = drop 1 v.rest }))) view (
      none_of_rest (rings_from image kinds p i) same,
      ap (λ (r : List FoundRing). let v : Scanned = record { image = image; zones = zones; rest = r } in v)
          (past_end image kinds q i (omega (arith, at_end)) ∙ no_rest (rings_from image kinds p i) same),
    )
