-- Writes to the store, byte by byte in rising order, and what reaches it of them
use Rattle.std.specs.Prelude.{ℕ, ◌+◌, ◌-◌, ◌==◌, if◌then◌else◌, min, nat_le, List, [], ◌∷◌, ◌++◌, length, take, drop}
use Rattle.std.specs.Prelude.{Option}
use Rattle.std.specs.Option.{option_map}
use Rattle.blk_spec.specs.declared.BlkCut.{BlkCut}
use Rattle.blk_spec.specs.declared.BlkCut.TheVariants.{Uncut, After, Dropped}

pub record Write : Type 0 where
  pub at : ℕ
  pub bytes : List ℕ

-- the store with these bytes in the place of those from `at` on
abbrev pub after_write : List ℕ → Write → List ℕ
after_write store w = take w.at store ++ w.bytes ++ drop (w.at + length w.bytes) store

unfoldable pub after_writes : List Write → List ℕ → List ℕ
after_writes [] store = store
after_writes (w ∷ ws) store = after_writes ws (after_write store w)

-- the same where the store tells its bytes; one that tells none goes on telling none
abbrev pub store_after : List Write → Option (List ℕ) → Option (List ℕ)
store_after ws store = option_map (after_writes ws) store

-- bytes written in pieces, one behind the other from a place on
unfoldable pub in_pieces : ℕ → List (List ℕ) → List Write
in_pieces at [] = []
in_pieces at (piece ∷ pieces) = record { at = at; bytes = piece } ∷ in_pieces (at + length piece) pieces

-- how many bytes writes have
unfoldable pub bytes_in : List Write → ℕ
bytes_in [] = 0
bytes_in (w ∷ ws) = length w.bytes + bytes_in ws

-- the first n bytes of writes
unfoldable pub first_bytes : ℕ → List Write → List Write
first_bytes n [] = []
first_bytes n (w ∷ ws) = record { at = w.at; bytes = take n w.bytes } ∷ first_bytes (n - length w.bytes) ws

-- how many of n bytes reach the store
abbrev pub through : BlkCut → ℕ → ℕ
through Uncut n = n
through (After limit) n = min limit n
through Dropped n = 0

-- what reaches the store of writes: so many of their first bytes
abbrev pub reaching : BlkCut → List Write → List Write
reaching cut ws = first_bytes (through cut (bytes_in ws)) ws

-- the cut once n bytes were written: where more than still reach the store, one was dropped
abbrev pub spent : ℕ → BlkCut → BlkCut
spent n Uncut = Uncut
spent n (After limit) = if nat_le n limit then After (limit - n) else Dropped
spent n Dropped = Dropped

-- how often writes ask the store: once for each of which a byte reaches it
unfoldable pub asks_of : BlkCut → List Write → ℕ
asks_of cut [] = 0
asks_of cut (w ∷ ws) = (if through cut (length w.bytes) == 0 then 0 else 1) + asks_of (spent (length w.bytes) cut) ws

-- a limit replaces an earlier one as long as no byte was dropped
abbrev pub limited : ℕ → BlkCut → BlkCut
limited n Dropped = Dropped
limited n other = After n
