-- How a part reads (fs/pstore/ram_core.c, persistent_ram_decode_rs8); a project's own is that no more
-- than half the parity is corrected
use Rattle.std.specs.Prelude.{ℕ, List, length, take, Option, Some, None}
use Rattle.zone_spec.specs.declared.Zone.{Zone}
use Rattle.zone_spec.specs.declared.Words.{Words}
use Rattle.code_spec.specs.Code.{distance, nearest}
use Rattle.zone_spec.specs.Parts.{Part, Header, part_bytes, part_word, words_in}

-- the bytes that a part reads as, the corrected bytes of its word with its parity, and whether it could
-- not be read
pub record PartReading : Type 0 where
  pub bytes : List ℕ
  pub corrected : ℕ
  pub bad : ℕ

-- the nearest codeword's bytes, or else the bytes as they stand
abbrev pub reading_by : List ℕ → List ℕ → Option (List ℕ) → PartReading
reading_by bytes word (Some c) = record { bytes = take (length bytes) c; corrected = distance word c; bad = 0 }
reading_by bytes word None = record { bytes = bytes; corrected = 0; bad = 1 }

-- the reading of a part of an image
unfoldable pub part_reading : Zone → List ℕ → Part → PartReading
part_reading z image p =
    reading_by (part_bytes z image p) (part_word z image p) (nearest z.parity (part_word z image p))

-- the words that a zone's header reads
abbrev pub words_read : Zone → List ℕ → Words
words_read z image = words_in z.byte_order (part_reading z image Header).bytes
