-- How the parts of a zone read
use Rattle.std.specs.Prelude.{ℕ, if◌then◌else◌, ◌==◌, List, [], map, slice_range, ◌+◌}
use Rattle.zone_spec.specs.declared.Zone.{Zone}
use Rattle.zone_spec.specs.declared.State.{State}
use Rattle.zone_spec.specs.declared.State.TheVariants.{Found}
use Rattle.zone_spec.specs.Parts.{Header, Block}
use Rattle.zone_spec.specs.PartReadings.{PartReading, part_reading}
use Rattle.zone_spec.specs.Reading.{ZoneReading, zone_reading, blocks_below}
use Rattle.zone_spec.specs.declared.PartState.{PartState}
use Rattle.zone_spec.specs.declared.PartState.TheVariants.{Read, Bad}

-- a zone's own bytes of an image
abbrev pub zone_bytes : Zone → List ℕ → List ℕ
zone_bytes z image = slice_range image z.at (z.at + z.size)

-- read with so many corrected bytes, or bad
abbrev pub part_state : PartReading → PartState
part_state reading = if reading.bad == 0 then Read reading.corrected else Bad

-- the states of the header, and of the blocks that hold bytes of the log, from block 0 on: those that begin below
-- size in a zone that was found. All further blocks are unused
pub record PartStates : Type 0 where
  pub header : PartState
  pub blocks : List PartState

abbrev pub used_blocks : Zone → ZoneReading → State → List ℕ
used_blocks z reading Found = blocks_below z reading.words.size
used_blocks z reading other = []

abbrev pub part_states : Zone → List ℕ → PartStates
part_states z bytes =
    let reading = zone_reading z bytes in
    record {
      header = part_state (part_reading z bytes Header);
      blocks = map (λ b. part_state (part_reading z bytes (Block b))) (used_blocks z reading reading.state);
    }
