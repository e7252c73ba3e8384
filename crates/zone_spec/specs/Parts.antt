-- The parts of a zone's image: which bytes and which parity make a word (fs/pstore/ram_core.c,
-- persistent_ram_init_ecc)
use Rattle.std.specs.Prelude.{◌≡◌, ℕ, ◌+◌, ◌-◌, ◌*◌, ◌<◌, min, List, ◌++◌, length, slice_index, slice_range}
use Rattle.zone_spec.specs.declared.Zone.{Zone}
use Rattle.zone_spec.specs.declared.Words.{Words}
use Rattle.zone_spec.specs.declared.params.ByteOrder.{ByteOrder}
use Rattle.zone_spec.specs.Numbers.{header_len, start_at, size_at}
use Rattle.zone_spec.specs.WordBytes.{word_of}

-- a list of bytes
abbrev pub AreBytes : List ℕ → Type 0
AreBytes xs = (i : ℕ) → slice_index xs i < 256

-- a zone's bytes
abbrev pub IsImage : Zone → List ℕ → Type 0
IsImage z image = (length image ≡ z.size) × AreBytes image

-- a part with parity of its own: the header, or block b of the data
pub data Part : Type 0 where
  Header : Part
  Block : (b : ℕ) → Part

-- a header or a block with data
abbrev pub IsPartOf : Zone → Part → Type 0
IsPartOf z Header = Unit {0}
IsPartOf z (Block b) = z.block * b < z.cap

-- where its bytes begin
abbrev pub part_at : Zone → Part → ℕ
part_at z Header = 0
part_at z (Block b) = header_len + z.block * b

-- how many bytes it has
abbrev pub part_len : Zone → Part → ℕ
part_len z Header = header_len
part_len z (Block b) = min (z.block * (b + 1)) z.cap - z.block * b

-- where its parity begins: behind the data those of the blocks, and then the header's
abbrev pub part_parity_at : Zone → Part → ℕ
part_parity_at z Header = header_len + z.cap + z.blocks * z.parity
part_parity_at z (Block b) = header_len + z.cap + b * z.parity

-- its bytes
unfoldable pub part_bytes : Zone → List ℕ → Part → List ℕ
part_bytes z image p = slice_range image (part_at z p) (part_at z p + part_len z p)

-- its word: its bytes followed by their parity
unfoldable pub part_word : Zone → List ℕ → Part → List ℕ
part_word z image p = part_bytes z image p ++ slice_range image (part_parity_at z p) (part_parity_at z p + z.parity)

-- the words of a header's twelve bytes (struct persistent_ram_buffer)
abbrev pub words_in : ByteOrder → List ℕ → Words
words_in order bytes = record {
  sig = word_of order (slice_range bytes 0 start_at);
  start = word_of order (slice_range bytes start_at size_at);
  size = word_of order (slice_range bytes size_at header_len);
}

-- the words as they stand in a zone's image
abbrev pub standing_words : Zone → List ℕ → Words
standing_words z image = words_in z.byte_order (slice_range image 0 header_len)
