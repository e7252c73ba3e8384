-- A boot that is made up to a limit, and the bytes of a zone's data as they were read
use Rattle.std.specs.Prelude.{◌≡◌, ℕ, ◌+◌, ◌-◌, ◌*◌, ◌/◌, ◌<◌, ◌≤◌, List, ◌++◌, length, take, drop}
use Rattle.zone_spec.specs.declared.Zone.{Zone}
use Rattle.zone_spec.specs.declared.State.TheVariants.{Found}
use Rattle.zone_spec.specs.Reading.{ZoneReading}
use Rattle.zone_spec.specs.Parts.{Block}
use Rattle.zone_spec.specs.PartReadings.{part_reading}
use Rattle.zone_boot.specs.declared.boots.Boot.{Boot}
use Rattle.zone_boot.specs.declared.boots.Phase.{Phase}
use Rattle.zone_boot.specs.declared.boots.Phase.TheVariants.{Header as HeaderPhase, Blocks, Finished}

-- a list that was turned to begin at start, as it was before
abbrev pub unturned : ℕ → List ℕ → List ℕ
unturned start turned = drop (length turned - start) turned ++ take (length turned - start) turned

-- the log of these words and the tail after it have what the block reads
pub record HasBlock (z : Zone) (image : List ℕ) (b start : ℕ) (log tail : List ℕ) : Type 0 where
  pub turned : start ≤ length log
  pub few : z.block * b < z.cap
  pub bytes : take z.block (drop (z.block * b) (unturned start log ++ tail)) ≡ (part_reading z image (Block b)).bytes

-- a boot in this phase corrects header or blocks
abbrev pub IsFixing : Phase → Type 0
IsFixing HeaderPhase = Unit {0}
IsFixing Blocks = Unit {0}
IsFixing other = ⊥

-- how many steps a boot may still make that hand out nothing
abbrev pub rank_in : ℕ → ℕ → Phase → ℕ
rank_in block count HeaderPhase = count + 3
rank_in block count Blocks = count - block + 2
rank_in block count Finished = 0
rank_in block count other = 1

abbrev pub rank : Boot → ℕ
rank b = rank_in b.block b.count b.phase

-- a zone that was found with corrections, and the number of blocks that hold its log
pub record IsRead (z : Zone) (reading : ZoneReading) (count : ℕ) : Type 0 where
  pub found : reading.state ≡ Found
  pub corrected : 0 < reading.corrected
  pub blocks : count ≡ (reading.words.size + z.block - 1) / z.block
