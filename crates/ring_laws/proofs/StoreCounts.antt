-- How many stores the stages of a call have
use Rattle.std.proofs.Common.{◌≡◌, ℕ, suc, ◌+◌, List, [], ◌∷◌, length, refl, ap, ◌∙◌, arith, length-append}
use Rattle.std.specs.Prelude.{sum_by}
use Rattle.std.specs.List.{AllByRecursion}
use Rattle.std.proofs.lemmas.List.Sums.{sum_by-cons}
use Rattle.zone_spec.specs.declared.Zone.{Zone}
use Rattle.zone_spec.specs.Zones.{IsValidZone}
use Rattle.zone_spec.specs.Parts.{AreBytes, part_bytes, part_at, part_len, part_parity_at}
use Rattle.zone_spec.specs.Stores.{after_stores, byte_stores}
use Rattle.zone_spec.specs.Stages.{Stage, SigWord, StartWord, SizeWord, Run, ParityOf, stage_stores, stores_in_turn}
use Rattle.zone_spec.specs.Stages.{stage_count}
use Rattle.ring_laws.proofs.PartsLaw.{slice_range-bytes, part_short}
use Rattle.ring_laws.proofs.PartWords.{has_parity}
use Rattle.ring_laws.proofs.StoreBytes.{HasBytes, after-bytes, stage_stores-all}

pub length-byte_stores : (place : ℕ) (bs : List ℕ) → length (byte_stores place bs) ≡ length bs
unfolding byte_stores
length-byte_stores place [] = refl
length-byte_stores place (b ∷ bs) = ap suc (length-byte_stores (place + 1) bs)

module _ (z : Zone) (valid : IsValidZone z) where
  pub length-stage : (g : Stage) (image : List ℕ) → AreBytes image → length (stage_stores z g image) ≡ stage_count z g
  unfolding stage_stores part_bytes
  length-stage (SigWord n) image h = refl
  length-stage (StartWord n) image h = refl
  length-stage (SizeWord n) image h = refl
  length-stage (Run place bytes) image h = length-byte_stores (12 + place) bytes
  length-stage (ParityOf part) image h =
      length-byte_stores (part_parity_at z part) _
      ∙ (has_parity z.parity (part_bytes z image part) (slice_range-bytes image (part_at z part)
      (part_at z part + part_len z part) h) (part_short z valid (has_parity z.parity) image part)).0

  pub length-stores : (gs : List Stage) (image : List ℕ) → AreBytes image → AllByRecursion HasBytes gs
      → length (stores_in_turn z gs image) ≡ sum_by (stage_count z) gs
  unfolding stores_in_turn
  length-stores [] image h k = refl
  length-stores (g ∷ gs) image h k =
      omega (
        arith,
        length-append (stage_stores z g image) (stores_in_turn z gs (after_stores image (stage_stores z g image))),
        length-stage g image h,
        length-stores gs (after_stores image (stage_stores z g image))
            (after-bytes image (stage_stores z g image) h (stage_stores-all z valid g image h k.0)) k.1,
        sum_by-cons (stage_count z) g gs,
      )
