-- A part's parity has the zone's number of bytes, and is the same while it is stored
use Rattle.std.proofs.Common.{◌≡◌, ℕ, ◌+◌, ◌-◌, ◌<◌, ◌≤◌, List, length, take, drop, get_or, refl, ap, ◌∙◌, arith}
use Rattle.std.proofs.Common.{get_or-take, get_or-drop, inl, inr, length-take}
use Rattle.std.proofs.lemmas.Bool.{cases_lt}
use Rattle.std.proofs.lemmas.List.{get_or_past}
use Rattle.list_laws.proofs.Elements.{AllByRecursion_from_places}
use Rattle.zone_spec.specs.declared.Zone.{Zone}
use Rattle.zone_spec.specs.Parts.{AreBytes, Part, part_bytes, part_at, part_len, part_parity_at}
use Rattle.zone_spec.specs.Stores.{put, after_stores, byte_stores}
use Rattle.zone_spec.specs.Stages.{ParityOf, stage_stores}
use Rattle.ring_laws.proofs.Images.{length-put, put-below, after_stores-byte_stores}
use Rattle.ring_laws.proofs.PartsLaw.{part_end, part_parity_at-number, slice_range-same}
use Rattle.ring_laws.proofs.StoreCounts.{length-byte_stores}
use Rattle.store_steps.proofs.PhaseStores.{part-byte_stores}
use Rattle.code_spec.specs.Code.{parity_of}
use Rattle.code_laws.proofs.Laws.{parity_made}

front_byte : (n : ℕ) (xs : List ℕ) → ((k : ℕ) → get_or xs k 0 < 256) → (k : ℕ) → get_or (take n xs) k 0 < 256
front_byte n xs h k = elim (cases_lt k n) [
  | inl l ↦ rw (get_or-take n xs k 0 l) (h k)
  | inr g ↦ rw (get_or_past (take n xs) k 0 (omega (arith, length-take n xs))) (omega arith)
]

pub parity_length : (z : Zone) (image : List ℕ) (p : Part) → AreBytes image
    → length (parity_of z.parity (part_bytes z image p)) ≡ z.parity
unfolding part_bytes
parity_length z image p bytes =
    let m : List ℕ = take ((part_at z p + part_len z p) - part_at z p) (drop (part_at z p) image) in
    (parity_made z.parity m (
      refl,
      AllByRecursion_from_places (λ b. b < 256) m (front_byte _ (drop (part_at z p) image)
          (λ k. rw (get_or-drop (part_at z p) image k 0) (bytes (part_at z p + k)))),
    )).0.0

pub length-parity_stores : (z : Zone) (image : List ℕ) (p : Part) → AreBytes image
    → length (stage_stores z (ParityOf p) image) ≡ z.parity
unfolding stage_stores
length-parity_stores z image p bytes =
    length-byte_stores (part_parity_at z p) (parity_of z.parity (part_bytes z image p)) ∙ parity_length z image p bytes

-- bytes put behind the data leave each part
parts_stay : (z : Zone) (image : List ℕ) (at : ℕ) (bs : List ℕ) (p : Part) → 0 < z.cap → 12 + z.cap ≤ at
    → part_bytes z (put image at bs) p ≡ part_bytes z image p
unfolding part_bytes
parts_stay z image at bs p some h =
    slice_range-same (put image at bs) image _ _ (length-put image at bs)
    (λ i l k. put-below image at i bs (elim (part_end z p some)
    [ inl a ↦ omega arith | inr e ↦ absurd (omega arith) ]))

-- so after some stores of a part's parity all of them are the same
pub parity_stays : (z : Zone) (image : List ℕ) (k n : ℕ) (p : Part) → 0 < z.cap
    → stage_stores z (ParityOf p) (after_stores image (take n (drop k (stage_stores z (ParityOf p) image))))
    ≡ stage_stores z (ParityOf p) image
unfolding stage_stores
parity_stays z image k n p some =
    let at : ℕ = part_parity_at z p in
    let par : List ℕ = parity_of z.parity (part_bytes z image p) in
    let bs : List ℕ = take n (drop k par) in
    let e : after_stores image (take n (drop k (byte_stores at par))) ≡ put image (at + k) bs =
    ap (after_stores image) (part-byte_stores n k at par) ∙ after_stores-byte_stores image (at + k) bs in
    ap (λ x. byte_stores at (parity_of z.parity (part_bytes z x p))) e
    ∙ ap (λ xs. byte_stores at (parity_of z.parity xs))
    (parts_stay z image (at + k) bs p some (omega (arith, part_parity_at-number z p)))
