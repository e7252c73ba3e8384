-- What a contract sees of a zone that is shared, and the histories that leave it so
use Rattle.std.specs.Prelude.{◌≡◌, ℕ, ◌+◌, ◌%◌, ◌^◌, ◌<◌, ◌≤◌, min, List, [], ◌∷◌, ◌++◌, length, map, take, drop}
use Rattle.std.specs.Prelude.{slice_get, slice_index, Option, Some, None, Result, Ok, Err}
use Rattle.std.specs.List.{concat}
use Rattle.zone_spec.specs.declared.Zone.{Zone}
use Rattle.zone_spec.specs.declared.Words.{Words}
use Rattle.zone_spec.specs.declared.params.ByteOrder.{ByteOrder}
use Rattle.zone_spec.specs.Parts.{standing_words}
use Rattle.zone_spec.specs.Stores.{Store}
use Rattle.machine_spec.specs.Zones.{zone_bytes}
use Rattle.prz_region.specs.CutRegion.{CutRegion, span, stored}
use Rattle.shared_spec.specs.declared.NoCall.{NoCall}
use Rattle.shared_spec.specs.declared.Next.{Next}
use Rattle.shared_spec.specs.declared.SharedRefusal.{SharedRefusal}
use Rattle.shared_spec.specs.Calls.{SharedCall, open_call}
use Rattle.shared_spec.specs.Machine.{SharedZone, CanShare, call_place, open_calls}
use Rattle.shared_spec.specs.Histories.{History, shared_zone}
use Rattle.shared_ring.specs.declared.seats.Seat.{Seat}
use Rattle.shared_ring.specs.Seats.{call_of, shown_seat, AreSeats, seats_stepped}
use Rattle.zone_spec.specs.WordBytes.{word_bytes}

-- the spans of the image's zones with the stores made into them, the shared zone and its place among them, how many
-- calls were reserved, and the seats of the open ones
pub record SharedSeen : Type 0 where
  pub region : CutRegion
  pub place : ℕ
  pub zone : Zone
  pub reserved : ℕ
  pub seats : List Seat

-- the zone's bytes
abbrev pub bytes_of : SharedSeen → List ℕ
bytes_of v = span v.region v.place

-- and its words
abbrev pub words_seen : SharedSeen → Words
words_seen v = standing_words v.zone (bytes_of v)

-- the zone has its bytes, its words are a ring with start below cap, and at most 64 seats are taken
pub record IsWhole (v : SharedSeen) : Type 0 where
  pub there : v.place < length v.region.spans
  pub sized : length (bytes_of v) ≡ v.zone.size
  pub short : v.zone.size ≤ 2 ^ 24
  pub room : 12 + v.zone.cap ≤ v.zone.size
  pub start : (words_seen v).start < v.zone.cap
  pub size : (words_seen v).size ≤ v.zone.cap
  pub few : length v.seats ≤ 64
  pub seats : AreSeats v.zone.cap v.seats

-- it stands for this shared zone of the image: its bytes and those of all others, the number of its calls, and its
-- open calls
pub record StandsFor (z : Zone) (image : List ℕ) (shared : SharedZone) (v : SharedSeen) : Type 0 where
  pub zone : v.zone ≡ z
  pub there : v.place < length v.region.spans
  pub bytes : bytes_of v ≡ shared.image
  pub before : concat (take v.place v.region.spans) ≡ take z.at image
  pub after : concat (drop (v.place + 1) v.region.spans) ++ v.region.rest ≡ drop (z.at + z.size) image
  pub reserved : v.reserved ≡ length shared.calls
  pub shown : map shown_seat v.seats ≡ open_calls z shared
  pub seated : (i : ℕ) (s : Seat) → slice_get v.seats i ≡ Some s → open_call shared.calls s.ticket ≡ Some (call_of s)

-- the history leaves it so
pub record IsLeftBy (h : History) (v : SharedSeen) : Type 0 where
  pub can : CanShare h.zone (zone_bytes h.zone h.image)
  pub stands : StandsFor h.zone h.image (shared_zone h) v

-- how many stores were made
abbrev pub stores : SharedSeen → ℕ
stores v = length v.region.made

-- one store of both words, start and size
abbrev pub words_store : ByteOrder → ℕ → ℕ → Store
words_store order start size = record { place = 4; bytes = word_bytes order start ++ word_bytes order size }

-- the store of a reservation in a ring with these words: those after so many bytes more
abbrev pub words_after : Zone → Words → ℕ → Store
words_after z w n = words_store z.byte_order ((w.start + n) % z.cap) (min z.cap (w.size + n))

-- one store of a data byte
abbrev pub byte_store : ℕ → ℕ → Store
byte_store place b = record { place = 12 + place; bytes = b ∷ [] }

-- one store was made into the zone, this one, and none elsewhere
abbrev pub HasStored : SharedSeen → SharedSeen → Store → Type 0
HasStored old new s = new.region ≡ stored old.region old.place (s ∷ [])

-- the store of a reservation of the shared zone
abbrev pub reserving : Zone → SharedZone → List ℕ → Store
reserving z shared payload = words_after z (standing_words z shared.image) (length payload)

-- the store of a step: the call's next byte, at its place
abbrev pub next_store : Zone → SharedZone → ℕ → SharedCall → Store
next_store z shared ticket c = byte_store (call_place z shared ticket c.stored) (slice_index c.payload c.stored)

-- after a reservation, which is one store
abbrev pub seated : SharedSeen → List ℕ → SharedSeen
seated v payload = record {
  region = stored v.region v.place (words_after v.zone (words_seen v) (length payload) ∷ []);
  place = v.place;
  zone = v.zone;
  reserved = v.reserved + 1;
  seats = v.seats ++ record {
    ticket = v.reserved;
    place = (words_seen v).start;
    stored = 0;
    payload = payload;
  } ∷ [];
}

-- after a step of the call in this seat, which is one store
abbrev pub stepped : SharedSeen → ℕ → Seat → SharedSeen
stepped v i s = record {
  region = stored v.region v.place
      (byte_store ((s.place + s.stored) % v.zone.cap) (slice_index s.payload s.stored) ∷ []);
  place = v.place;
  zone = v.zone;
  reserved = v.reserved;
  seats = seats_stepped v.seats i s;
}

-- what a reservation answers: the ticket, or the refusal with the payload
abbrev pub IsReserved : Option SharedRefusal → ℕ → List ℕ → Result ℕ (SharedRefusal × List ℕ) → Type 0
IsReserved None ticket payload (Ok answer) = answer ≡ ticket
IsReserved None ticket payload (Err refused) = ⊥
IsReserved (Some why) ticket payload (Ok answer) = ⊥
IsReserved (Some why) ticket payload (Err refused) = (refused.0 ≡ why) × (refused.1 ≡ payload)

-- what a step answers: what it stored, or that no open call has the ticket
abbrev pub IsStepped : Option Next → Result Next NoCall → Type 0
IsStepped None (Ok next) = ⊥
IsStepped None (Err none) = Unit {0}
IsStepped (Some next) (Ok answer) = answer ≡ next
IsStepped (Some next) (Err none) = ⊥
