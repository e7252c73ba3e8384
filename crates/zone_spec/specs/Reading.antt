-- How a boot reads a zone (fs/pstore/ram_core.c, persistent_ram_post_init and persistent_ram_save_old)
use Rattle.std.specs.Prelude.{ℕ, ◌+◌, ◌-◌, ◌/◌, ◌%◌, ◌≤◌, not, ◌&&◌, ◌||◌, if◌then◌else◌, nat_lt, ◌==◌, List, [], ◌++◌}
use Rattle.std.specs.Prelude.{map, sum_by, slice_index}
use Rattle.std.specs.List.{range_with_len}
use Rattle.zone_spec.specs.declared.Zone.{Zone}
use Rattle.zone_spec.specs.declared.Words.{Words}
use Rattle.zone_spec.specs.declared.State.{State}
use Rattle.zone_spec.specs.declared.State.TheVariants.{Unsigned, Empty, Invalid, Found}
use Rattle.zone_spec.specs.Parts.{Header, Block}
use Rattle.zone_spec.specs.PartReadings.{part_reading, words_read}

-- the places of a ring's log in order: from start to size, then from 0 to start
abbrev pub log_places : ℕ → ℕ → List ℕ
log_places start size = range_with_len start (size - start) ++ range_with_len 0 start

-- words that are a ring of this capacity
abbrev pub IsRing : Words → ℕ → Type 0
IsRing w cap = (w.start ≤ w.size) × (w.size ≤ cap)

-- the blocks that begin below x, for an x of at most the capacity
abbrev pub blocks_below : Zone → ℕ → List ℕ
blocks_below z x = range_with_len 0 ((x + z.block - 1) / z.block)

-- the byte that a data place reads, from the reading of its block
abbrev pub byte_read : Zone → List ℕ → ℕ → ℕ
byte_read z image place = slice_index (part_reading z image (Block (place / z.block))).bytes (place % z.block)

-- a zone's reading: its state, its header's words, its log, and the counts
pub record ZoneReading : Type 0 where
  pub state : State
  pub words : Words
  pub log : List ℕ
  pub corrected : ℕ
  pub bad : ℕ

-- the state that the words make
abbrev pub state_of : Zone → Words → State
state_of z w =
    if not (w.sig == z.sig) then Unsigned
    else (if (w.size == 0) && (w.start == 0) then Empty
    else (if nat_lt z.cap w.size || nat_lt w.size w.start then Invalid
    else Found))

-- the bytes that the log places read
abbrev pub log_read : Zone → List ℕ → Words → List ℕ
log_read z image w = map (λ place. byte_read z image place) (log_places w.start w.size)

-- a zone that was found has a log, and the counts of header and of the blocks that begin below size
abbrev pub reading_in : Zone → List ℕ → Words → State → ZoneReading
reading_in z image w Found = record {
  state = Found;
  words = w;
  log = log_read z image w;
  corrected = (part_reading z image Header).corrected + sum_by (λ b. (part_reading z image (Block b)).corrected)
      (blocks_below z w.size);
  bad = (part_reading z image Header).bad + sum_by (λ b. (part_reading z image (Block b)).bad) (blocks_below z w.size);
}
-- in the other states there is no log, and the counts are the header's
reading_in z image w other = record {
  state = other;
  words = w;
  log = [];
  corrected = (part_reading z image Header).corrected;
  bad = (part_reading z image Header).bad;
}

-- the reading of a zone's image
unfoldable pub zone_reading : Zone → List ℕ → ZoneReading
zone_reading z image =
    reading_in z image (words_read z image) (state_of z (words_read z image))
