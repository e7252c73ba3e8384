-- A zone whose header and log are codewords reads with nothing corrected and nothing bad
use Rattle.std.proofs.Common.{◌≡◌, ℕ, zero, suc, ◌+◌, ◌-◌, ◌/◌, ◌<◌, ◌≤◌, List, refl, sym, ap, ◌∙◌, subst, arith}
use Rattle.std.specs.Prelude.{sum_by}
use Rattle.std.specs.List.{range_with_len}
use Rattle.std.proofs.lemmas.List.Sums.{sum_by-cons}
use Rattle.code_laws.proofs.Nearest.{distance_self}
use Rattle.zone_spec.specs.declared.Zone.{Zone}
use Rattle.zone_spec.specs.declared.State.{State}
use Rattle.zone_spec.specs.declared.State.TheVariants.{Unsigned, Empty, Invalid, Found}
use Rattle.zone_spec.specs.Zones.{IsValidZone}
use Rattle.zone_spec.specs.Parts.{Part, Header, Block, part_bytes, part_word}
use Rattle.zone_spec.specs.PartReadings.{reading_by, part_reading, words_read}
use Rattle.zone_spec.specs.Reading.{ZoneReading, zone_reading, reading_in, state_of}
use Rattle.ring_laws.proofs.PartsLaw.{block_some, nearest-codeword}
use Rattle.ring_laws.proofs.States.{below_count, reading_is}
use Rattle.move_laws.proofs.Codes.{IsClean, HasCodes}

-- a clean part
part_clean : (z : Zone) (image : List ℕ) (p : Part) → IsClean z image p
    → ((part_reading z image p).corrected ≡ 0) × ((part_reading z image p).bad ≡ 0)
unfolding part_reading
part_clean z image p clean =
    let near = nearest-codeword z.parity (part_word z image p) clean in (
      ap (λ o. (reading_by (part_bytes z image p) (part_word z image p) o).corrected) near
          ∙ distance_self (part_word z image p),
      ap (λ o. (reading_by (part_bytes z image p) (part_word z image p) o).bad) near,
    )

sum_none : (f : ℕ → ℕ) (n a : ℕ) → ((b : ℕ) → a ≤ b → b < a + n → f b ≡ 0) → sum_by f (range_with_len a n) ≡ 0
sum_none f zero a h = refl
sum_none f (suc n) a h = omega (
  arith,
  sum_by-cons f a (range_with_len (a + 1) n),
  h a (omega arith) (omega arith),
  sum_none f n (a + 1) (λ b k l. h b (omega arith) (omega arith)),
)

sum_both : (a b : ℕ) → a ≡ 0 → b ≡ 0 → a + b ≡ 0
sum_both a b h k = omega arith

abbrev IsClear : ZoneReading → Type 0
IsClear r = (r.corrected ≡ 0) × (r.bad ≡ 0)

pub counts_none : (z : Zone) (image : List ℕ) → IsValidZone z → HasCodes z image (words_read z image).size
    → IsClear (zone_reading z image)
counts_none z image valid codes =
    subst IsClear (sym (reading_is z image)) (by (state_of z (words_read z image)))
  where
    head : ((part_reading z image Header).corrected ≡ 0) × ((part_reading z image Header).bad ≡ 0)
    head = part_clean z image Header codes.header

    block : (b : ℕ) → b < (((words_read z image).size + z.block) - 1) / z.block
        → ((part_reading z image (Block b)).corrected ≡ 0) × ((part_reading z image (Block b)).bad ≡ 0)
    block b h = part_clean z image (Block b) (codes.blocks b
        (below_count z.block (words_read z image).size b (block_some z valid) h))

    by : (s : State) → IsClear (reading_in z image (words_read z image) s)
    by Unsigned = head
    by Empty = head
    by Invalid = head
    by Found = (
      sum_both _ _ head.0 (sum_none (λ b. (part_reading z image (Block b)).corrected)
          (((words_read z image).size + z.block - 1) / z.block) 0
          (λ b k l. (block b (omega (arith, l))).0)),
      sum_both _ _ head.1 (sum_none (λ b. (part_reading z image (Block b)).bad)
          (((words_read z image).size + z.block - 1) / z.block) 0
          (λ b k l. (block b (omega (arith, l))).1)),
    )
