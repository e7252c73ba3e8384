-- The pair that is seen is the first pair that the words are
use Rattle.std.proofs.Common.{◌≡◌, ◌≢◌, ℕ, nat_lt, ◌<◌, ◌≤◌, Bool, true, false, ◌&&◌, ◌==◌, List, length, get_or}
use Rattle.std.proofs.Common.{slice_get, refl, sym, ap, ap₂, ◌∙◌, subst, arith, inl, inr, Option, Some, None}
use Rattle.std.proofs.Common.{true≢false, eq-eqb, eqb-true}
use Rattle.std.specs.List.{position, position_or_len}
use Rattle.std.proofs.lemmas.Bool.{cases_lt, and_parts}
use Rattle.std.proofs.lemmas.Bool.Decides.{eqb_tells, nat_tests}
use Rattle.std.proofs.lemmas.List.Quantifiers.{position-Some}
use Rattle.std.proofs.lemmas.List.Sums.{fails_before_first}
use Rattle.std.proofs.lemmas.Option.{get_or_from_slice_get, slice_get-get_or, slice_get_within}
use Rattle.zone_spec.specs.declared.Zone.{Zone}
use Rattle.zone_spec.specs.declared.Words.{Words}
use Rattle.zone_spec.specs.declared.Pair.{Pair}
use Rattle.zone_spec.specs.declared.HeaderSeen.TheVariants.{Pair as SeenPair, Foreign}
use Rattle.zone_spec.specs.Pairs.{pair_of, seen_at, header_seen}
use Rattle.damage_laws.specs.Exact.{IsFirstPair, IsExactSeen}

module _ (z : Zone) (w : Words) (pairs : List Pair) where
  abbrev test : Pair → Bool
  test p = (w.start == p.start) && (w.size == p.size)

  passes : (p : Pair) → test p ≡ true → p ≡ pair_of w
  passes p e =
      let t = and_parts (w.start == p.start) (w.size == p.size) e in
      ap₂ (λ x y. record { start = x; size = y }) (sym (eqb-true w.start p.start t.0))
      (sym (eqb-true w.size p.size t.1))

  own : test (pair_of w) ≡ true
  own = ap₂ (λ a b. a && b) (eq-eqb w.start w.start refl) (eq-eqb w.size w.size refl)

  first_of : (j : ℕ) → position test pairs ≡ Some j → (slice_get pairs j ≡ Some (pair_of w))
      × ((i : ℕ) → i < j → slice_get pairs i ≢ Some (pair_of w))
  first_of j e =
      let r = position-Some test pairs j (pair_of w) e in (
        slice_get-get_or pairs j (pair_of w) r.0 ∙ ap Some (passes (get_or pairs j (pair_of w)) r.1),
        λ i h k. true≢false (sym own ∙ ap test (sym (get_or_from_slice_get pairs i (pair_of w) (pair_of w) k))
            ∙ r.2 i h),
      )

  none_of : position test pairs ≡ None → (j : ℕ) → slice_get pairs j ≢ Some (pair_of w)
  none_of e j k = by (nat_lt (position_or_len test pairs) (length pairs)) refl
    where
      by : (b : Bool) → nat_lt (position_or_len test pairs) (length pairs) ≡ b → ⊥
      by true f = (let n : Some (position_or_len test pairs) ≡ None = sym (rw f refl) ∙ e in cc)
      by false f =
          let most : length pairs ≤ position_or_len test pairs = grind (arith, nat_tests, f) in
          let within : j < length pairs = slice_get_within pairs j (pair_of w) k in
          true≢false (sym own ∙ ap test (sym (get_or_from_slice_get pairs j (pair_of w) (pair_of w) k))
          ∙ fails_before_first test pairs j (pair_of w) (omega (arith, most, within)))

  seen_by : (o : Option ℕ) → position test pairs ≡ o → w.sig ≡ z.sig → IsExactSeen z w pairs (seen_at o)
  seen_by (Some i) e signed =
      let f = first_of i e in
      record {
        pair = λ j. (
          (λ h. (let same : i ≡ j = cc in subst (IsFirstPair z w pairs) same
              (record { signed = signed; pair = f.0; first = f.1 }))),
          (λ h. ap SeenPair (least i j f h)),
        );
        foreign = (
          (λ h. (let n : SeenPair i ≡ Foreign = h in cc)),
          (λ h. elim h [ inl ne ↦ absurd (ne signed) | inr none ↦ absurd (none i f.0) ]),
        );
      }
    where
      least : (i j : ℕ) → (slice_get pairs i ≡ Some (pair_of w))
          × ((m : ℕ) → m < i → slice_get pairs m ≢ Some (pair_of w)) → IsFirstPair z w pairs j → i ≡ j
      least i j f h = elim (cases_lt i j) [
        | inl a ↦ absurd (h.first i a f.0)
        | inr b ↦ elim (cases_lt j i) [ inl c ↦ absurd (f.1 j c h.pair) | inr d ↦ omega (arith, b, d) ]
      ]
  seen_by None e signed = record {
    pair = λ j. (
      (λ h. (let n : Foreign ≡ SeenPair j = h in cc)),
      (λ h. absurd (none_of e j h.pair)),
    );
    foreign = ((λ h. inr (none_of e)), (λ h. refl));
  }

  pub seen_is_exact : IsExactSeen z w pairs (header_seen z w pairs)
  seen_is_exact = elim (eqb_tells w.sig z.sig) [
    | inl s ↦ rw s.0 (seen_by (position test pairs) refl s.1)
    | inr n ↦ rw n.0 (record {
      pair = λ j. ((λ h. (let c : Foreign ≡ SeenPair j = h in cc)), (λ h. absurd (n.1 h.signed)));
      foreign = ((λ h. inl n.1), (λ h. refl));
    })
  ]
