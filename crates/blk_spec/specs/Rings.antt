-- The writes of an append to a ring (a project's own, after fs/pstore/zone.c)
use Rattle.std.specs.Prelude.{ℕ, ◌+◌, ◌-◌, ◌%◌, min, Bool, not, ◌&&◌, ◌||◌, if◌then◌else◌, nat_lt, ◌==◌, List, [], ◌∷◌}
use Rattle.std.specs.Prelude.{◌++◌, length, take, drop}
use Rattle.std.specs.Int.{to_le_bytes}
use Rattle.std.proofs.Common.{w32}
use Rattle.zone_spec.specs.Told.{last_items}
use Rattle.blk_spec.specs.declared.BlkZone.{BlkZone}
use Rattle.blk_spec.specs.declared.BlkWords.{BlkWords}
use Rattle.blk_spec.specs.Layout.{header_len, capacity}
use Rattle.blk_spec.specs.Writes.{Write}

-- a zone's header: signature, data length and start, 32 bits each, little-endian
abbrev pub header_bytes : ℕ → BlkWords → List ℕ
header_bytes sig words = to_le_bytes w32 sig ++ to_le_bytes w32 words.size ++ to_le_bytes w32 words.start

abbrev pub header_write : BlkZone → BlkWords → Write
header_write z words = record { at = z.at; bytes = header_bytes z.sig words }

-- data from a place on, then the header with these words
abbrev pub run_writes : BlkZone → ℕ → List ℕ → BlkWords → List Write
run_writes z place bytes words = record { at = z.at + header_len + place; bytes = bytes } ∷ header_write z words ∷ []

abbrev pub empty_words : BlkWords
empty_words = record { size = 0; start = 0 }

-- of n bytes so many fit before the end of the data, and make the first run
abbrev pub first_run : BlkZone → BlkWords → ℕ → ℕ
first_run z words n = min n (capacity z - words.start)

-- the words behind the first run, and behind the bytes that go on from place 0
abbrev pub first_words : BlkZone → BlkWords → ℕ → BlkWords
first_words z words n = record {
  size = words.start + first_run z words n;
  start = (words.start + first_run z words n) % capacity z;
}

abbrev pub run_words : BlkZone → BlkWords → ℕ → BlkWords
run_words z words n =
    if nat_lt (first_run z words n) n then record { size = n - first_run z words n; start = n - first_run z words n }
    else first_words z words n

-- whether the ring is full and its last header says less
abbrev pub is_short : BlkZone → BlkWords → ℕ → Bool
is_short z words n = not ((run_words z words n).size == capacity z) &&
    ((words.size == capacity z) || nat_lt (first_run z words n) n)

abbrev pub last_words : BlkZone → BlkWords → ℕ → BlkWords
last_words z words n = if is_short z words n then record { size = capacity z; start = (run_words z words n).start }
    else run_words z words n

-- the writes of at least one byte and at most as many as the ring holds
unfoldable pub kept_writes : BlkZone → BlkWords → List ℕ → List Write
kept_writes z words bytes =
    let n = length bytes in
    let m = first_run z words n in
    run_writes z words.start (take m bytes) (first_words z words n)
    ++ (if nat_lt m n then run_writes z 0 (drop m bytes) (run_words z words n) else [])
    ++ (if is_short z words n then header_write z (last_words z words n) ∷ [] else [])

-- the writes of an append: of its last bytes where it has more than the ring holds
unfoldable pub append_writes : BlkZone → BlkWords → List ℕ → List Write
append_writes z words payload = if length payload == 0 then [] else kept_writes z words
    (last_items (capacity z) payload)

-- the ring's words afterwards
unfoldable pub words_after : BlkZone → BlkWords → List ℕ → BlkWords
words_after z words payload = if length payload == 0 then words else last_words z words
    (min (length payload) (capacity z))
