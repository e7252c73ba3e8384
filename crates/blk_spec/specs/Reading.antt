-- What a loading reads of the store's bytes: the saved rings and the listed dumps (a project's own)
use Rattle.std.specs.Prelude.{ℕ, ◌^◌, max, Bool, not, ◌&&◌, if◌then◌else◌, nat_lt, nat_le, ◌==◌, List, ◌++◌, take, drop}
use Rattle.std.specs.Prelude.{fold, flat_map, slice_range, slice_index, option_to_list, Option, Some, None}
use Rattle.std.specs.List.{range_with_len}
use Rattle.std.specs.Int.{from_le_bytes}
use Rattle.std.proofs.Common.{w32, w64}
use Rattle.zone_spec.specs.declared.Words.{Words}
use Rattle.blk_spec.specs.declared.BlkLayout.{BlkLayout}
use Rattle.blk_spec.specs.declared.BlkRing.{BlkRing}
use Rattle.blk_spec.specs.declared.BlkZone.{BlkZone}
use Rattle.blk_spec.specs.declared.BlkTime.{BlkTime}
use Rattle.blk_spec.specs.Layout.{header_len, ring_zone, dump_zone, capacity}
use Rattle.blk_spec.specs.Dumps.{Counters}

-- a listed dump; its reason by its number
pub record BlkDump : Type 0 where
  pub index : ℕ
  pub time : BlkTime
  pub packed : Bool
  pub counter : ℕ
  pub reason : ℕ
  pub body : List ℕ

-- a zone's bytes in the store
abbrev pub zone_bytes : List ℕ → BlkZone → List ℕ
zone_bytes store z = take z.size (drop z.at store)

-- the words of a zone's header
abbrev pub header_words : List ℕ → Words
header_words bytes = record {
  sig = from_le_bytes w32 (slice_range bytes 0 4);
  size = from_le_bytes w32 (slice_range bytes 4 8);
  start = from_le_bytes w32 (slice_range bytes 8 header_len);
}

-- a valid zone has its own signature, a length within its data and a start within its length
abbrev pub is_valid : BlkZone → Words → Bool
is_valid z words = (words.sig == z.sig) && nat_le words.size (capacity z) && nat_le words.start words.size

-- a ring's bytes from start up to its length, then from 0 up to start
abbrev pub ring_log : Words → List ℕ → List ℕ
ring_log words bytes = drop words.start (take words.size bytes) ++ take words.start bytes

-- the saved log of a valid ring that has bytes
unfoldable pub saved_ring : BlkZone → List ℕ → Option (List ℕ)
saved_ring z bytes =
    let words = header_words bytes in
    if is_valid z words && nat_lt 0 words.size then Some (ring_log words (drop header_len bytes)) else None

-- what the 40 bytes of a dump's header say; what stands in their padding does not matter
abbrev pub dump_seen : ℕ → Words → List ℕ → BlkDump
dump_seen index words bytes = record {
  index = index;
  time = record {
    secs = from_le_bytes w64 (slice_range bytes 8 16);
    nanos = from_le_bytes w64 (slice_range bytes 16 24);
  };
  packed = not (slice_index bytes 24 == 0);
  counter = from_le_bytes w32 (slice_range bytes 28 32);
  reason = from_le_bytes w32 (slice_range bytes 32 36);
  body = drop 40 (take words.size bytes);
}

-- a valid dump zone is listed where it has a dump's header whose magic is right and whose time is in range
abbrev pub is_dump : Words → List ℕ → Bool
is_dump words bytes =
    nat_le 40 words.size && (from_le_bytes w32 (slice_range bytes 0 4) == 0x4dfc3ae5)
    && nat_lt (from_le_bytes w64 (slice_range bytes 8 16)) (2 ^ 63) && nat_lt
    (from_le_bytes w64 (slice_range bytes 16 24)) 1000000000

unfoldable pub listed_dump : ℕ → BlkZone → List ℕ → Option BlkDump
listed_dump index z bytes =
    let words = header_words bytes in
    if is_valid z words && is_dump words (drop header_len bytes)
    then Some (dump_seen index words (drop header_len bytes)) else None

-- the saved log of a ring, and the listed dumps by rising number
abbrev pub ring_saved : BlkLayout → BlkRing → List ℕ → Option (List ℕ)
ring_saved l ring store = saved_ring (ring_zone l ring) (zone_bytes store (ring_zone l ring))

abbrev pub dump_listed : BlkLayout → List ℕ → ℕ → Option BlkDump
dump_listed l store index = listed_dump index (dump_zone l index) (zone_bytes store (dump_zone l index))

unfoldable pub dumps_listed : BlkLayout → List ℕ → List BlkDump
dumps_listed l store = flat_map (λ index. option_to_list (dump_listed l store index)) (range_with_len 0 l.dumps)

-- the greatest counter of the dumps with a reason, or 0
unfoldable pub greatest_counter : ℕ → List BlkDump → ℕ
greatest_counter reason dumps = fold (λ most (d : BlkDump). if d.reason == reason then max most d.counter else most)
    0 dumps

abbrev pub counters_of : List BlkDump → Counters
counters_of dumps = record { panics = greatest_counter 1 dumps; oopses = greatest_counter 2 dumps }
