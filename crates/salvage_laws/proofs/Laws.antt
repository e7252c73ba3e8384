-- What tells whether a header's word is a ring
use Rattle.std.proofs.Common.{◌≡◌, ℕ, zero, suc, ◌+◌, ◌-◌, ◌/◌, ◌≤◌, ◌&&◌, ◌==◌, if◌then◌else◌, nat_le, nat_lt, true}
use Rattle.std.proofs.Common.{false, Bool, List, [], ◌∷◌, length, take, drop, refl, sym, ap, ◌∙◌, subst, arith, Option}
use Rattle.std.proofs.Common.{Some, None, IsTrue, eqb-true, eq-eqb, leb-true, le-leb}
use Rattle.std.proofs.lemmas.List.{take-append-drop}
use Rattle.zone_spec.specs.declared.Zone.{Zone}
use Rattle.zone_spec.specs.declared.Words.{Words}
use Rattle.zone_spec.specs.Zones.{IsValidZone}
use Rattle.zone_spec.specs.Parts.{words_in}
use Rattle.code_spec.specs.Code.{IsWord, IsCodeword, IsNear, nearest, distance, parity_of}
use Rattle.code_laws.proofs.Nearest.{nearest-IsNear, distance_zero, distance_self}
use Rattle.code_laws.proofs.Laws.{nearest_law, parity_law}
use Rattle.salvage_spec.specs.Rings.{IsRingOf, IsRingBy, is_ring_of, found_by, ring_in, ring_of}
use Rattle.salvage_spec.specs.declared.FoundRing.{FoundRing}
use Rattle.salvage_laws.specs.Known.{known, amended, amends, IsRingByKnown}
use Rattle.salvage_laws.specs.Laws.{RingByKnown, CorrectedByKnown, ManyAmends, AllAmends, IsRingAsAmended, RingInIs}
use Rattle.salvage_laws.proofs.KnownBytes.{distance-put_in, word-put_in}
use Rattle.salvage_laws.proofs.Bytes.{has_known, are_known}

-- a codeword near a word of so many bytes, within half the parity
near_of : (r n : ℕ) (w c : List ℕ) → IsWord n w → nearest r w ≡ Some c → IsWord n c × IsCodeword r c × (distance w c
    ≤ r / 2)
near_of r n w c word e =
    let own : IsWord (length w) w = subst (λ m. IsWord m w) (sym word.0) word in
    let near : IsNear r w c = nearest-IsNear r w c own e in
    (subst (λ m. IsWord m c) word.0 near.word, near.codeword, near.within)

-- and back
nearest_of : (r n : ℕ) (w c : List ℕ) → n ≤ 255 → IsWord n w → IsWord n c → IsCodeword r c → distance w c ≤ r / 2
    → nearest r w ≡ Some c
nearest_of r n w c l word cword code near =
    let own : IsWord (length w) w = subst (λ m. IsWord m w) (sym word.0) word in
    (nearest_law r w c (omega (arith, word.0)) own).1 (subst (λ m. IsWord m c) (sym word.0) cword, code, near)

fits : (z : Zone) → IsValidZone z → 12 + z.parity ≤ 255
fits z v = omega (arith, v.parity)

amended_word : (z : Zone) (word : List ℕ) → IsWord (12 + z.parity) word → IsWord (12 + z.parity) (amended z word)
amended_word z word w = word-put_in (known z) word (12 + z.parity) (are_known z) w

-- a ring's codeword is as far as the known bytes that differ and the amended word together
pub split : (z : Zone) (word c : List ℕ) → IsValidZone z → IsWord (12 + z.parity) word → IsWord (12 + z.parity) c
    → IsRingOf z (words_in z.byte_order c) → distance word c ≡ amends z word + distance (amended z word) c
split z word c v w cw is =
    distance-put_in (known z) word c (w.0 ∙ sym cw.0) (has_known z c v (omega (arith, cw.0)) cw.1 is)

pub corrected_is : CorrectedByKnown
corrected_is z word c v w is = split z word c v w (near_of z.parity (12 + z.parity) word c w is.nearest).0 is.words

to_known : (z : Zone) (word c : List ℕ) → IsValidZone z → IsWord (12 + z.parity) word → IsRingBy z word c
    → IsRingByKnown z word c
to_known z word c v w is =
    let near = near_of z.parity (12 + z.parity) word c w is.nearest in
    let sum = split z word c v w near.0 is.words in
    let within : distance word c ≤ z.parity / 2 = near.2 in
    record {
      few = omega (arith, sum, within);
      nearest = nearest_of z.parity (12 + z.parity) (amended z word) c (fits z v) (amended_word z word w) near.0 near.1
          (omega (arith, sum, within));
      close = omega (arith, sum, within);
      words = is.words;
    }

from_known : (z : Zone) (word c : List ℕ) → IsValidZone z → IsWord (12 + z.parity) word → IsRingByKnown z word c
    → IsRingBy z word c
from_known z word c v w is =
    let near = near_of z.parity (12 + z.parity) (amended z word) c (amended_word z word w) is.nearest in
    let sum = split z word c v w near.0 is.words in
    record {
      nearest = nearest_of z.parity (12 + z.parity) word c (fits z v) w near.0 near.1
          (omega (arith, sum, is.few, is.close));
      words = is.words;
    }

pub known_is : RingByKnown
known_is z word c v w = (to_known z word c v w, from_known z word c v w)

pub many_is : ManyAmends
many_is z word c v w many is = let few = (to_known z word c v w is).few in omega (arith, few, many)

-- a codeword of at least twelve bytes is twelve bytes and their parity
take_word : (n m : ℕ) (xs : List ℕ) → IsWord (n + m) xs → IsWord n (take n xs) × IsWord m (drop n xs)
take_word zero m xs h = ((refl, tt), (omega (arith, h.0), h.1))
take_word (suc n) m [] h = absurd (omega (arith, h.0))
take_word (suc n) m (x ∷ xs) h =
    let t = take_word n m xs (omega (arith, h.0), h.1.1) in ((omega (arith, t.0.0), (h.1.0, t.0.1)), t.1)

parity_to : (r : ℕ) (c : List ℕ) → 12 + r ≤ 255 → IsWord (12 + r) c → IsCodeword r c → parity_of r (take 12 c) ≡
    drop 12 c
parity_to r c l w code =
    let t = take_word 12 r c w in
    (parity_law r (take 12 c) (drop 12 c) (omega (arith, t.0.0)) (subst (λ n. IsWord n (take 12 c)) (sym t.0.0) t.0)).1
    (t.1, subst (IsCodeword r) (sym (take-append-drop 12 c)) code)

parity_from : (r : ℕ) (c : List ℕ) → 12 + r ≤ 255 → IsWord (12 + r) c → parity_of r (take 12 c) ≡ drop 12 c →
    IsCodeword r c
parity_from r c l w e =
    let t = take_word 12 r c w in
    subst (IsCodeword r) (take-append-drop 12 c)
    ((parity_law r (take 12 c) (drop 12 c) (omega (arith, t.0.0)) (subst (λ n. IsWord n (take 12 c)) (sym t.0.0) t.0)).0
    e).1

to_amended : (z : Zone) (word c : List ℕ) → IsValidZone z → IsWord (12 + z.parity) word → amends z word ≡ z.parity / 2
    → IsRingBy z word c → IsRingAsAmended z word c
to_amended z word c v w all is =
    let by = to_known z word c v w is in
    let close : distance (amended z word) c ≤ z.parity / 2 - amends z word = by.close in
    let aw = amended_word z word w in
    let near = near_of z.parity (12 + z.parity) word c w is.nearest in
    record {
      same = sym (distance_zero (amended z word) c (aw.0 ∙ sym near.0.0) (omega (arith, close, all)));
      parity = parity_to z.parity c (fits z v) near.0 near.1;
      words = is.words;
    }

from_amended : (z : Zone) (word c : List ℕ) → IsValidZone z → IsWord (12 + z.parity) word → amends z word ≡ z.parity / 2
    → IsRingAsAmended z word c → IsRingBy z word c
from_amended z word c v w all is =
    let aw = amended_word z word w in
    let cw : IsWord (12 + z.parity) c = subst (IsWord (12 + z.parity)) (sym is.same) aw in
    let zero_apart : distance (amended z word) c ≡ 0 =
    ap (distance (amended z word)) is.same ∙ distance_self (amended z word) in
    from_known z word c v w (record {
      few = omega (arith, all);
      nearest = nearest_of z.parity (12 + z.parity) (amended z word) c (fits z v) aw cw
          (parity_from z.parity c (fits z v) cw is.parity) (omega (arith, zero_apart));
      close = omega (arith, zero_apart);
      words = is.words;
    })

pub all_is : AllAmends
all_is z word c v w all = (to_amended z word c v w all, from_amended z word c v w all)

-- ---- the ring that is found
all_four : (a b c d : Bool) → IsTrue (a && b && c && d) → IsTrue a × IsTrue b × IsTrue c × IsTrue d
all_four true true true true h = (refl, refl, refl, refl)
all_four true true true false h = cc
all_four true true false d h = cc
all_four true false c d h = cc
all_four false b c d h = cc

pub is_ring_of-true : (z : Zone) (w : Words) → IsTrue (is_ring_of z w) → IsRingOf z w
is_ring_of-true z w h =
    let a = all_four (w.sig == z.sig) (nat_le w.start w.size) (nat_le w.size z.cap) (nat_lt 0 w.size) h in
    record {
      sig = eqb-true w.sig z.sig a.0;
      ring = (leb-true w.start w.size a.1, leb-true w.size z.cap a.2);
      some = leb-true 1 w.size a.3;
    }

pub is_ring_of-is : (z : Zone) (w : Words) → IsRingOf z w → is_ring_of z w ≡ true
is_ring_of-is z w h =
    rw (eq-eqb w.sig z.sig h.sig) (rw (le-leb w.start w.size h.ring.0) (rw (le-leb w.size z.cap h.ring.1) (le-leb 1
    w.size h.some)))

pub ring_in_is : RingInIs
unfolding ring_in
ring_in_is z at word ring = (found, finds)
  where
    if_ring : (c : List ℕ) (t : Bool) → is_ring_of z (words_in z.byte_order c) ≡ t → nearest z.parity word ≡ Some c
        → (if t then Some (ring_of z at word c) else None) ≡ Some ring
        → (c : List ℕ) × IsRingBy z word c × (ring ≡ ring_of z at word c)
    if_ring c true e n h = (c, record { nearest = n; words = is_ring_of-true z (words_in z.byte_order c) e }, cc)
    if_ring c false e n h = cc

    by : (o : Option (List ℕ)) → nearest z.parity word ≡ o → found_by z at word o ≡ Some ring
        → (c : List ℕ) × IsRingBy z word c × (ring ≡ ring_of z at word c)
    by None e h = cc
    by (Some c) e h = if_ring c (is_ring_of z (words_in z.byte_order c)) refl e h

    found : ring_in z at word ≡ Some ring → (c : List ℕ) × IsRingBy z word c × (ring ≡ ring_of z at word c)
    found h = by (nearest z.parity word) refl h

    finds : (c : List ℕ) × IsRingBy z word c × (ring ≡ ring_of z at word c) → ring_in z at word ≡ Some ring
    finds h =
        rw h.1.nearest (rw (is_ring_of-is z (words_in z.byte_order h.0) h.1.words) (ap (λ (x : FoundRing). Some x) (sym h.2)))
