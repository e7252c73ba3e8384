-- The entries of Android's log in the bytes of a pmsg zone. An entry is a header of 18 bytes and a payload: the magic
-- byte `l`, the length of the whole entry, user and process (android_pmsg_log_header_t), then the log, the thread, and
-- the time in seconds and nanoseconds (android_log_header_t), all little-endian and packed
use Rattle.std.specs.Prelude.{ℕ, zero, suc, ◌+◌, ◌-◌, ◌==◌, nat_lt, nat_le, Bool, ◌&&◌, if◌then◌else◌, List, [], ◌∷◌}
use Rattle.std.specs.Prelude.{length, slice_index}
use Rattle.std.specs.Int.{w16, w32, from_le_bytes}
use Rattle.pmsg_spec.specs.declared.Entry.{Entry}

unfoldable pub half : List ℕ → ℕ → ℕ
half bytes at = from_le_bytes w16 (slice_index bytes at ∷ slice_index bytes (at + 1) ∷ [])

unfoldable pub word : List ℕ → ℕ → ℕ
word bytes at = from_le_bytes w32
    (slice_index bytes at ∷ slice_index bytes (at + 1) ∷ slice_index bytes (at + 2) ∷ slice_index bytes (at + 3) ∷ [])

-- the length that an entry at the front says that it has
abbrev pub entry_len : List ℕ → ℕ
entry_len bytes = half bytes 1

-- whether a whole entry stands at the front: of one of the eight logs, and with less than a second of nanoseconds
unfoldable pub is_entry : List ℕ → Bool
is_entry bytes =
    nat_le 18 (length bytes) && (slice_index bytes 0 == 108) && nat_le 18 (entry_len bytes)
    && nat_le (entry_len bytes) (length bytes) && nat_lt (slice_index bytes 7) 8
    && nat_lt (word bytes 14) 1_000_000_000

-- the entry at the front of bytes that begin at a place of the pmsg
abbrev pub entry_of : ℕ → List ℕ → Entry
entry_of at bytes = record {
  log = slice_index bytes 7;
  uid = half bytes 3;
  pid = half bytes 5;
  tid = half bytes 8;
  secs = word bytes 10;
  nanos = word bytes 14;
  start = at + 18;
  end = at + entry_len bytes;
}

-- whether bytes are whole entries, one after the other; the first bytes are the rest of an entry before
unfoldable pub go_on : ℕ → List ℕ → Bool
go_on rest [] = rest == 0
go_on zero (b ∷ bs) = is_entry (b ∷ bs) && go_on (entry_len (b ∷ bs) - 1) bs
go_on (suc rest) (b ∷ bs) = go_on rest bs

abbrev pub are_entries : List ℕ → Bool
are_entries bytes = go_on 0 bytes

-- these entries; the bytes begin at a place of the pmsg, and the first of them are the rest of an entry before
unfoldable pub listed : ℕ → ℕ → List ℕ → List Entry
listed at rest [] = []
listed at zero (b ∷ bs) = entry_of at (b ∷ bs) ∷ listed (at + 1) (entry_len (b ∷ bs) - 1) bs
listed at (suc rest) (b ∷ bs) = listed (at + 1) rest bs

-- a ring may begin within an entry: the entries from the first place on from which whole entries follow one another up
-- to the end. None, if there is no such place: then the pmsg is not Android's
unfoldable pub entries_from : ℕ → List ℕ → List Entry
entries_from at [] = []
entries_from at (b ∷ bs) =
    if are_entries (b ∷ bs) then listed at 0 (b ∷ bs) else entries_from (at + 1) bs

abbrev pub entries : List ℕ → List Entry
entries bytes = entries_from 0 bytes
