-- The seats of open calls
use Rattle.std.specs.Prelude.{◌≡◌, ℕ, ◌+◌, ◌-◌, ◌%◌, ◌<◌, ◌≤◌, Bool, if◌then◌else◌, ◌==◌, List, [], ◌∷◌, ◌++◌, length}
use Rattle.std.specs.Prelude.{take, drop, set, slice_get, Some}
use Rattle.zone_spec.specs.declared.Words.{Words}
use Rattle.zone_spec.specs.Reading.{IsRing}
use Rattle.zone_spec.specs.Ring.{IsOpen}
use Rattle.shared_spec.specs.declared.Next.{Next}
use Rattle.shared_spec.specs.declared.Next.TheVariants.{Stored, Done}
use Rattle.shared_spec.specs.declared.OpenCall.{OpenCall}
use Rattle.shared_spec.specs.Calls.{SharedCall}
use Rattle.shared_ring.specs.declared.seats.Seat.{Seat}

-- whether the seat has this ticket
abbrev pub is_of : ℕ → Seat → Bool
is_of ticket s = s.ticket == ticket

-- the call of a seat
abbrev pub call_of : Seat → SharedCall
call_of s = record { payload = s.payload; stored = s.stored }

-- the same as it is shown
abbrev pub shown_seat : Seat → OpenCall
shown_seat s = record { ticket = s.ticket; place = s.place; length = length s.payload; stored = s.stored }

-- the way round the ring from one place to another; from a place to itself it is the whole ring
abbrev pub way_round : ℕ → ℕ → ℕ → ℕ
way_round cap from to =
    let way = ((to + cap) - from) % cap in
    if way == 0 then cap else way

-- the way from the oldest open call's first place to start
abbrev pub held_since : List Seat → ℕ → ℕ → ℕ
held_since [] start cap = 0
held_since (s ∷ ss) start cap = way_round cap s.place start

-- the call has bytes to store, its payload fits the ring, and its place is one of it
pub record IsSeat (cap : ℕ) (s : Seat) : Type 0 where
  pub place : s.place < cap
  pub stored : s.stored < length s.payload
  pub long : length s.payload ≤ cap

pub record AreSeats (cap : ℕ) (seats : List Seat) : Type 0 where
  pub each : (i : ℕ) (s : Seat) → slice_get seats i ≡ Some s → IsSeat cap s

-- a seat with a byte more stored
abbrev pub one_more : Seat → Seat
one_more s = record { ticket = s.ticket; place = s.place; stored = s.stored + 1; payload = s.payload }

-- what a step makes of the seat at i: it has a byte more stored, or is given back
abbrev pub seats_stepped : List Seat → ℕ → Seat → List Seat
seats_stepped seats i s =
    if s.stored + 1 == length s.payload then take i seats ++ drop (i + 1) seats
    else set seats i (one_more s)

-- and what the step answers
abbrev pub next_of : Seat → Next
next_of s = if s.stored + 1 == length s.payload then Done else Stored

-- words that are a ring to which a call can append
pub record IsOpenRing (w : Words) (cap : ℕ) : Type 0 where
  pub ring : IsRing w cap
  pub is_open : IsOpen w cap
