-- Laws of the block store
use Rattle.std.specs.Prelude.{◌≡◌, ℕ, ◌-◌, ◌<◌, ◌≤◌, ◌+◌, min, Bool, List, [], ◌∷◌, ◌++◌, length, Some, IfSome}
use Rattle.zone_spec.specs.Told.{last_items}
use Rattle.blk_spec.specs.declared.BlkLayout.{BlkLayout}
use Rattle.blk_spec.specs.declared.BlkZone.{BlkZone}
use Rattle.blk_spec.specs.declared.BlkWords.{BlkWords}
use Rattle.blk_spec.specs.declared.BlkTime.{BlkTime}
use Rattle.kmsg_spec.specs.declared.Reason.{Reason}
use Rattle.blk_spec.specs.Layout.{capacity}
use Rattle.blk_spec.specs.Writes.{Write, after_writes, bytes_in, first_bytes}
use Rattle.blk_spec.specs.Rings.{append_writes, words_after, header_write, empty_words}
use Rattle.blk_spec.specs.Dumps.{dump_writes, dump_pieces}
use Rattle.blk_spec.specs.Reading.{zone_bytes, saved_ring}
use Rattle.blk_spec.specs.States.{BlkState, loaded}
use Rattle.blk_spec.specs.Session.{Session, Load, session_after}
use Rattle.blk_laws.specs.Standing.{LiesIn, StandsFor, listed}
use Rattle.blk_laws.specs.Apart.{AreWithin, AreApart}

abbrev pub LoadingListsReading : Type 0
LoadingListsReading =
    (l : BlkLayout) (s : Session) → IfSome s.blk (λ (b : BlkState). b.layout ≡ l)
    → (session_after l s Load).blk ≡ Some (loaded l s.store)

abbrev pub StandingRingIsListed : Type 0
StandingRingIsListed =
    (z : BlkZone) (words : BlkWords) (store told : List ℕ) → LiesIn z store → StandsFor z words store told
    → saved_ring z (zone_bytes store z) ≡ listed told

abbrev pub ErasedRingIsEmpty : Type 0
ErasedRingIsEmpty =
    (z : BlkZone) (store : List ℕ) → LiesIn z store → StandsFor z empty_words
    (after_writes (header_write z empty_words ∷ []) store) []

abbrev pub AppendKeepsLastBytes : Type 0
AppendKeepsLastBytes =
    (z : BlkZone) (words : BlkWords) (store told payload : List ℕ) → LiesIn z store → StandsFor z words store told
    → StandsFor z (words_after z words payload) (after_writes (append_writes z words payload) store)
    (last_items (capacity z) (told ++ payload))

abbrev pub CutAppendListsBefore : Type 0
CutAppendListsBefore =
    (z : BlkZone) (words : BlkWords) (store told payload : List ℕ) (k : ℕ) → LiesIn z store
    → StandsFor z words store told → words.size < capacity z
    → k ≤ min (length (last_items (capacity z) payload)) (capacity z - words.start)
    → StandsFor z words (after_writes (first_bytes k (append_writes z words payload)) store) told

-- an append, a dump and an erasure, in zones that have room for a header and, for a dump, for its own too
abbrev pub CallsWriteWithin : Type 0
CallsWriteWithin =
    ((z : BlkZone) (words : BlkWords) (payload : List ℕ) → 12 ≤ z.size → words.start ≤ capacity z
    → AreWithin z (append_writes z words payload))
    × ((z : BlkZone) (time : BlkTime) (packed : Bool) (counter : ℕ) (reason : Reason) (body : List ℕ) → 52 ≤ z.size
    → AreWithin z (dump_writes z time packed counter reason body))
    × ((z : BlkZone) (words : BlkWords) → 12 ≤ z.size → AreWithin z (header_write z words ∷ []))

abbrev pub OtherZonesStay : Type 0
OtherZonesStay =
    (z other : BlkZone) (ws : List Write) (store : List ℕ) (k : ℕ) → z.at + z.size ≤ length store → AreApart z other
    → AreWithin z ws
    → zone_bytes (after_writes (first_bytes k ws) store) other ≡ zone_bytes store other

-- the pieces of a dump have the bytes of its one write, and leave what that one leaves, also where only the first k
-- bytes reach the store
abbrev pub DumpPiecesAreOneWrite : Type 0
DumpPiecesAreOneWrite =
    (z : BlkZone) (time : BlkTime) (packed : Bool) (counter : ℕ) (reason : Reason) (body : List ℕ)
    → (bytes_in (dump_pieces z time packed counter reason body)
    ≡ bytes_in (dump_writes z time packed counter reason body))
    × ((k : ℕ) (store : List ℕ) → z.at ≤ length store
    → after_writes (first_bytes k (dump_pieces z time packed counter reason body)) store
    ≡ after_writes (first_bytes k (dump_writes z time packed counter reason body)) store)
