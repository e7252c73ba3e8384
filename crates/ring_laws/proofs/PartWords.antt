-- The words of a zone's parts, and what the code says of them
use Rattle.std.proofs.Common.{◌≡◌, ℕ, zero, suc, ◌+◌, ◌-◌, ◌<◌, ◌≤◌, List, [], ◌∷◌, ◌++◌, length, take, drop, get_or}
use Rattle.std.proofs.Common.{slice_range, refl, ap, arith, length-take, length-drop, length-append, take_at, Some}
use Rattle.std.proofs.Common.{None, IsTrue}
use Rattle.std.specs.List.{AllByRecursion}
use Rattle.list_laws.proofs.Elements.{AllByRecursion-append}
use Rattle.zone_spec.specs.declared.Zone.{Zone}
use Rattle.zone_spec.specs.Zones.{IsValidZone}
use Rattle.code_spec.specs.Code.{IsWord, is_codeword, parity_of, nearest}
use Rattle.zone_spec.specs.Parts.{AreBytes, Part, part_at, part_len, part_parity_at, part_bytes, part_word}
use Rattle.zone_spec.specs.PartReadings.{part_reading, reading_by}
use Rattle.code_laws.proofs.Laws.{parity_made}
use Rattle.ring_laws.proofs.PartsLaw.{HasParity, slice_range-bytes, part_short}

pub bytes-all : (xs : List ℕ) → AreBytes xs → AllByRecursion (λ b. b < 256) xs
bytes-all [] h = tt
bytes-all (x ∷ xs) h = (h 0, bytes-all xs (λ i. h (suc i)))

pub bytes-each : (xs : List ℕ) → AllByRecursion (λ b. b < 256) xs → AreBytes xs
bytes-each [] h i = none i
  where
    none : (i : ℕ) → get_or [] i 0 < 256
    none zero = omega arith
    none (suc i) = omega arith
bytes-each (x ∷ xs) h zero = h.0
bytes-each (x ∷ xs) h (suc i) = bytes-each xs h.1 i

-- every message has its parity
pub has_parity : (r : ℕ) → HasParity r
has_parity r m h l =
    let made : IsWord r (parity_of r m) × IsTrue (is_codeword r (m ++ parity_of r m)) =
    parity_made r m (refl, bytes-all m h) in
    (made.0.0, bytes-each _ made.0.1, made.1)

module _ (z : Zone) where
  pub part_word-IsWord : (x : List ℕ) (p : Part) → AreBytes x → IsWord (length (part_word z x p)) (part_word z x p)
  unfolding part_word part_bytes
  part_word-IsWord x p h = (
    refl,
    AllByRecursion-append (λ b. b < 256) _ _ (bytes-all _
        (slice_range-bytes x (part_at z p) (part_at z p + part_len z p) h))
        (bytes-all _ (slice_range-bytes x (part_parity_at z p) (part_parity_at z p + z.parity) h)),
  )

  pub length-part_bytes : (x y : List ℕ) (p : Part) → length x ≡ length y
      → length (part_bytes z x p) ≡ length (part_bytes z y p)
  unfolding part_bytes
  length-part_bytes x y p l = omega (
    arith,
    length-take ((part_at z p + part_len z p) - part_at z p)
        (drop (part_at z p) x),
    length-take ((part_at z p + part_len z p) - part_at z p) (drop (part_at z p) y),
    length-drop (part_at z p) x,
    length-drop (part_at z p) y,
  )

  pub length-part_word : (x y : List ℕ) (p : Part) → length x ≡ length y
      → length (part_word z x p) ≡ length (part_word z y p)
  unfolding part_word
  length-part_word x y p l =
      omega (
        arith,
        length-part_bytes x y p l,
        length-append (part_bytes z x p) (slice_range x (part_parity_at z p) (part_parity_at z p + z.parity)),
        length-append (part_bytes z y p) (slice_range y (part_parity_at z p) (part_parity_at z p + z.parity)),
        length-take ((part_parity_at z p + z.parity) - part_parity_at z p) (drop (part_parity_at z p) x),
        length-take ((part_parity_at z p + z.parity) - part_parity_at z p) (drop (part_parity_at z p) y),
        length-drop (part_parity_at z p) x,
        length-drop (part_parity_at z p) y,
      )

  pub part_word-short : (x : List ℕ) (p : Part) → IsValidZone z → length (part_word z x p) ≤ 255
  unfolding part_word
  part_word-short x p valid =
      omega (
        arith,
        part_short z valid (has_parity z.parity) x p,
        length-append (part_bytes z x p) (slice_range x (part_parity_at z p) (part_parity_at z p + z.parity)),
        length-take ((part_parity_at z p + z.parity) - part_parity_at z p) (drop (part_parity_at z p) x),
      )

  -- a word begins with its bytes
  pub part_bytes-word : (x : List ℕ) (p : Part) → take (length (part_bytes z x p)) (part_word z x p) ≡ part_bytes z x p
  unfolding part_word
  part_bytes-word x p = take_at (part_bytes z x p) _ (length (part_bytes z x p)) refl

  pub reading_near : (x : List ℕ) (p : Part) (c : List ℕ) → nearest z.parity (part_word z x p) ≡ Some c
      → (part_reading z x p).bytes ≡ take (length (part_bytes z x p)) c
  unfolding part_reading
  reading_near x p c e = ap (λ o. (reading_by (part_bytes z x p) (part_word z x p) o).bytes) e

  pub reading_none : (x : List ℕ) (p : Part) → nearest z.parity (part_word z x p) ≡ None
      → (part_reading z x p).bytes ≡ part_bytes z x p
  unfolding part_reading
  reading_none x p e = ap (λ o. (reading_by (part_bytes z x p) (part_word z x p) o).bytes) e
