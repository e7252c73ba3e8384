-- The ring of a header's word, by its amended word
use Rattle.std.proofs.Common.{◌≡◌, ℕ, ◌+◌, ◌-◌, ◌/◌, ◌<◌, ◌≤◌, ◌⊎◌, if◌then◌else◌, true, false, Bool, List, refl, sym}
use Rattle.std.proofs.Common.{ap, ◌∙◌, subst, arith, Option, Some, None}
use Rattle.std.proofs.Math.Dec.{leb}
use Rattle.std.proofs.lemmas.Bool.Decides.{leb_tells}
use Rattle.std.proofs.Common.{inl, inr}
use Rattle.zone_spec.specs.declared.Zone.{Zone}
use Rattle.zone_spec.specs.declared.Words.{Words}
use Rattle.zone_spec.specs.Zones.{IsValidZone}
use Rattle.zone_spec.specs.Parts.{words_in}
use Rattle.code_spec.specs.Code.{IsWord, nearest, distance}
use Rattle.rs_decode.specs.Decoding.{within}
use Rattle.salvage_spec.specs.Rings.{IsRingOf, IsRingBy, is_ring_of, ring_in}
use Rattle.salvage_spec.specs.declared.FoundRing.{FoundRing}
use Rattle.salvage_laws.specs.Known.{amended, amends}
use Rattle.salvage_laws.proofs.Laws.{known_is, many_is, corrected_is, ring_in_is, is_ring_of-true, is_ring_of-is}
use Rattle.salvage.specs.Headers.{ring_if, ring_near}

-- none where no codeword is a ring's
pub none_is : (z : Zone) (at : ℕ) (word : List ℕ) → ((d : List ℕ) → IsRingBy z word d → ⊥)
    → None ≡ ring_in z at word
none_is z at word no_ring = by (ring_in z at word) refl
  where
    by : (o : Option FoundRing) → ring_in z at word ≡ o → ◌≡◌ {A = Option FoundRing} None (ring_in z at word)
    by None e = sym e
    by (Some ring) e = let h = (ring_in_is z at word ring).0 e in absurd (no_ring h.0 h.1)

-- where no codeword but c can be a ring's, its words tell
pub found_is : (z : Zone) (at : ℕ) (word c : List ℕ) (w : Words) (n : ℕ) → w ≡ words_in z.byte_order c
    → (IsRingOf z (words_in z.byte_order c) → IsRingBy z word c × (distance word c ≡ n))
    → ((d : List ℕ) → IsRingBy z word d → d ≡ c) → ring_if z at w n ≡ ring_in z at word
found_is z at word c w n e is only =
    ap (λ (v : Words). ring_if z at v n) e ∙ by (is_ring_of z (words_in z.byte_order c)) refl
  where
    by : (t : Bool) → is_ring_of z (words_in z.byte_order c) ≡ t
        → ◌≡◌ {A = Option FoundRing}
        (if t then Some (record { at = at; zone = z.name; words = words_in z.byte_order c; corrected = n }) else None)
        (ring_in z at word)
    by true t =
        let ring : FoundRing = record { at = at; zone = z.name; words = words_in z.byte_order c; corrected = n } in
        let h = is (is_ring_of-true z (words_in z.byte_order c) t) in
        sym ((ring_in_is z at word ring).1 (
          c,
          h.0,
          ap (λ (m : ℕ).
              let r : FoundRing = record { at = at; zone = z.name; words = words_in z.byte_order c; corrected = m } in r) (sym h.1),
        ))
    by false t = none_is z at word (λ d h.
        let same : d ≡ c = only d h in
        let r : is_ring_of z (words_in z.byte_order c) ≡ true =
        is_ring_of-is z (words_in z.byte_order c) (subst (λ x. IsRingOf z (words_in z.byte_order x)) same h.words) in
        let bad : true ≡ false = sym r ∙ t in cc)

-- by the nearest codeword
pub one_near : (z : Zone) (at : ℕ) (word c : List ℕ) (w : Words) (n : ℕ) → w ≡ words_in z.byte_order c
    → nearest z.parity word ≡ Some c → distance word c ≡ n → ring_if z at w n ≡ ring_in z at word
one_near z at word c w n ew e d =
    found_is z at word c w n ew (λ ring. (record { nearest = e; words = ring }, d))
    (λ x h. (let same : x ≡ c = (let s : Some x ≡ Some c = sym h.nearest ∙ e in cc) in same))

module _ (z : Zone) (at : ℕ) (word : List ℕ) (valid : IsValidZone z) (is_word : IsWord (12 + z.parity) word) where
  pub many : z.parity / 2 < amends z word → None ≡ ring_in z at word
  many h = none_is z at word (λ d. many_is z word d valid is_word h)

  -- by the codeword near the amended word
  pub near_is : amends z word ≤ z.parity / 2
      → ring_near z at (amends z word) (amended z word)
      (within (z.parity / 2 - amends z word) (amended z word) (nearest z.parity (amended z word)))
      ≡ ring_in z at word
  unfolding within
  near_is few = by (nearest z.parity (amended z word)) refl
    where
      far : (c : List ℕ) → nearest z.parity (amended z word) ≡ Some c
          → (z.parity / 2 - amends z word) < distance (amended z word) c → (d : List ℕ) → IsRingBy z word d → ⊥
      far c n l d h =
          let k = (known_is z word d valid is_word).0 h in
          let same : c ≡ d = (let s : Some c ≡ Some d = sym n ∙ k.nearest in cc) in
          let close : distance (amended z word) d ≤ z.parity / 2 - amends z word = k.close in
          let e : distance (amended z word) c ≡ distance (amended z word) d = ap (distance (amended z word)) same in
          omega (arith, close, e, l)

      close_to : (c : List ℕ) → nearest z.parity (amended z word) ≡ Some c
          → distance (amended z word) c ≤ (z.parity / 2 - amends z word)
          → ring_if z at (words_in z.byte_order c) (amends z word + distance (amended z word) c) ≡ ring_in z at word
      close_to c n l = found_is z at word c (words_in z.byte_order c) (amends z word + distance (amended z word) c) refl
          (λ ring.
          let by : IsRingBy z word c = (known_is z word c valid is_word).1
          (record { few = few; nearest = n; close = l; words = ring }) in
          (by, corrected_is z word c valid is_word by))
          (λ d h.
          let k = (known_is z word d valid is_word).0 h in
          let same : d ≡ c = (let s : Some d ≡ Some c = sym k.nearest ∙ n in cc) in same)

      one : (c : List ℕ) → nearest z.parity (amended z word) ≡ Some c
          → ((leb (distance (amended z word) c) (z.parity / 2 - amends z word) ≡ true) × (distance (amended z word)
          c ≤ (z.parity / 2 - amends z word)))
          ⊎ ((leb (distance (amended z word) c) (z.parity / 2 - amends z word) ≡ false) × ((z.parity / 2 - amends z
          word) < distance (amended z word) c))
          → ring_near z at (amends z word) (amended z word)
          (if leb (distance (amended z word) c) (z.parity / 2 - amends z word) then Some c else None) ≡ ring_in z at
          word
      one c n (inl h) =
          ap (λ (b : Bool). ring_near z at (amends z word) (amended z word) (if b then Some c else None)) h.0
          ∙ close_to c n h.1
      one c n (inr h) =
          ap (λ (b : Bool). ring_near z at (amends z word) (amended z word) (if b then Some c else None)) h.0
          ∙ none_is z at word (far c n h.1)

      by : (o : Option (List ℕ)) → nearest z.parity (amended z word) ≡ o
          → ring_near z at (amends z word) (amended z word)
          (within (z.parity / 2 - amends z word) (amended z word) (nearest z.parity (amended z word)))
          ≡ ring_in z at word
      by None n =
          ap (λ (o : Option (List ℕ)). ring_near z at (amends z word) (amended z word)
          (within (z.parity / 2 - amends z word) (amended z word) o)) n
          ∙ none_is z at word (λ d h.
          let k = (known_is z word d valid is_word).0 h in
          (let bad : None ≡ Some d = sym n ∙ k.nearest in cc))
      by (Some c) n =
          ap (λ (o : Option (List ℕ)). ring_near z at (amends z word) (amended z word)
          (within (z.parity / 2 - amends z word) (amended z word) o)) n
          ∙ one c n (leb_tells (distance (amended z word) c) (z.parity / 2 - amends z word))
