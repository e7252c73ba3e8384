-- The bytes at the front of a zone's data as their blocks read, what the blocks count, and their states
use Rattle.std.specs.Prelude.{ℕ, ◌+◌, ◌-◌, ◌*◌, ◌/◌, min, List, map, sum_by}
use Rattle.std.specs.List.{range_with_len}
use Rattle.zone_spec.specs.declared.Zone.{Zone}
use Rattle.zone_spec.specs.Parts.{Block}
use Rattle.zone_spec.specs.PartReadings.{part_reading}
use Rattle.zone_spec.specs.Reading.{byte_read, blocks_below}
use Rattle.zone_spec.specs.declared.PartState.{PartState}
use Rattle.zone_spec.specs.PartStates.{part_state}

-- the bytes that the first n data places read
unfoldable pub bytes_read : Zone → List ℕ → ℕ → List ℕ
bytes_read z image n = map (λ place. byte_read z image place) (range_with_len 0 n)

-- the corrected bytes of the blocks that begin below n
abbrev pub corrected_below : Zone → List ℕ → ℕ → ℕ
corrected_below z image n = sum_by (λ b. (part_reading z image (Block b)).corrected) (blocks_below z n)

-- how many of these blocks could not be read
abbrev pub bad_below : Zone → List ℕ → ℕ → ℕ
bad_below z image n = sum_by (λ b. (part_reading z image (Block b)).bad) (blocks_below z n)

-- how these blocks read
abbrev pub states_below : Zone → List ℕ → ℕ → List PartState
states_below z image n = map (λ b. part_state (part_reading z image (Block b))) (blocks_below z n)

-- where the last block ends that begins below n
unfoldable pub read_end : Zone → ℕ → ℕ
read_end z n = min (z.block * ((n + z.block - 1) / z.block)) z.cap
