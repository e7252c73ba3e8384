-- The front of a zone's data that was read
use Rattle.std.specs.Prelude.{◌≡◌, ℕ, ◌*◌, ◌≤◌, min, true, List, map, sum_by}
use Rattle.std.specs.List.{range_with_len}
use Rattle.zone_spec.specs.declared.Zone.{Zone}
use Rattle.zone_spec.specs.Parts.{Block}
use Rattle.zone_spec.specs.PartReadings.{part_reading}
use Rattle.zone_spec.specs.PartStates.{part_state}
use Rattle.prz_read.specs.Reads.{bytes_read}
use Rattle.prz_read.specs.declared.reading.Front.{Front}

-- it has what the first n blocks read, as far as they lie below size, what they count, and their states if wanted
pub record ReadsTo (z : Zone) (image : List ℕ) (size n : ℕ) (front : Front) : Type 0 where
  pub bytes : front.bytes.items ≡ bytes_read z image (min (z.block * n) size)
  pub corrected : front.counts.corrected ≡ sum_by (λ (b : ℕ). (part_reading z image (Block b)).corrected)
      (range_with_len 0 n)
  pub bad : front.counts.bad ≡ sum_by (λ (b : ℕ). (part_reading z image (Block b)).bad) (range_with_len 0 n)
  pub few : front.counts.corrected ≤ 255 * n
  pub some : front.counts.bad ≤ n
  pub states : front.states.are_wanted ≡ true → front.states.kept.items
      ≡ map (λ b. part_state (part_reading z image (Block b))) (range_with_len 0 n)
