-- A loaded block store: what it knows between calls, what it lists, and what each call makes of it
use Rattle.std.specs.Prelude.{ℕ, ◌+◌, ◌%◌, Bool, not, if◌then◌else◌, ◌==◌, List, [], ◌∷◌, ◌++◌, map, filter, Option}
use Rattle.std.specs.Prelude.{Some, None}
use Rattle.std.specs.List.{find, list_any}
use Rattle.std.specs.Option.{option_map}
use Rattle.blk_spec.specs.declared.BlkLayout.{BlkLayout}
use Rattle.blk_spec.specs.declared.BlkRing.{BlkRing}
use Rattle.blk_spec.specs.declared.BlkRing.TheVariants.{Console as ConsoleRing, Pmsg as PmsgRing}
use Rattle.blk_spec.specs.declared.BlkZone.{BlkZone}
use Rattle.blk_spec.specs.declared.BlkWords.{BlkWords}
use Rattle.blk_spec.specs.declared.BlkTime.{BlkTime}
use Rattle.blk_spec.specs.declared.BlkName.{BlkName}
use Rattle.blk_spec.specs.declared.BlkName.TheVariants.{Dump, Console, Pmsg}
use Rattle.blk_spec.specs.declared.BlkCut.{BlkCut}
use Rattle.blk_spec.specs.declared.BlkCut.TheVariants.{Uncut}
use Rattle.blk_spec.specs.declared.BlkFault.{BlkFault}
use Rattle.blk_spec.specs.declared.BlkFault.TheVariants.{NoZone, NoRecord}
use Rattle.kmsg_spec.specs.declared.Reason.{Reason}
use Rattle.blk_spec.specs.Layout.{ring_zone, dump_zone}
use Rattle.blk_spec.specs.Writes.{Write, limited}
use Rattle.blk_spec.specs.Rings.{header_write, empty_words, append_writes, words_after}
use Rattle.blk_spec.specs.Dumps.{Counters, dump_writes, dump_pieces, counter_for, counted}
use Rattle.blk_spec.specs.Reading.{BlkDump, ring_saved, dumps_listed, counters_of}
use Rattle.blk_spec.specs.Names.{is_name, dump_name, dump_content}

-- a ring: its words, and the log that was saved of it at the loading, None where it has none
pub record RingState : Type 0 where
  pub words : BlkWords
  pub saved : Option (List ℕ)

pub record BlkState : Type 0 where
  pub layout : BlkLayout
  pub console : RingState
  pub pmsg : RingState
  pub dumps : List BlkDump
  pub cursor : ℕ
  pub counters : Counters
  pub cut : BlkCut

abbrev pub ring_of : BlkState → BlkRing → RingState
ring_of b ConsoleRing = b.console
ring_of b PmsgRing = b.pmsg

abbrev pub with_ring : BlkState → BlkRing → RingState → BlkState
with_ring b ConsoleRing ring = record b { console = ring }
with_ring b PmsgRing ring = record b { pmsg = ring }

-- a loading erases the rings: pmsg, then the console
abbrev pub clearing : BlkZone → List Write
clearing z = if z.size == 0 then [] else header_write z empty_words ∷ []

unfoldable pub load_writes : BlkLayout → List Write
load_writes l = clearing (ring_zone l PmsgRing) ++ clearing (ring_zone l ConsoleRing)

-- what a loading makes of the store's bytes
abbrev pub loaded : BlkLayout → List ℕ → BlkState
loaded l store = record {
  layout = l;
  console = record { words = empty_words; saved = ring_saved l ConsoleRing store };
  pmsg = record { words = empty_words; saved = ring_saved l PmsgRing store };
  dumps = dumps_listed l store;
  cursor = 0;
  counters = counters_of (dumps_listed l store);
  cut = Uncut;
}

-- an append goes to a ring that the layout has
abbrev pub append_refusal : BlkState → BlkRing → Option BlkFault
append_refusal b ring = if (ring_zone b.layout ring).size == 0 then Some NoZone else None

abbrev pub append_of : BlkState → BlkRing → List ℕ → List Write
append_of b ring payload = append_writes (ring_zone b.layout ring) (ring_of b ring).words payload

abbrev pub appended : BlkState → BlkRing → List ℕ → BlkState
appended b ring payload =
    with_ring b ring (record {
      words = words_after (ring_zone b.layout ring) (ring_of b ring).words payload;
      saved = (ring_of b ring).saved;
    })

-- a dump goes to the cursor's zone
abbrev pub dump_refusal : BlkState → Option BlkFault
dump_refusal b = if b.layout.dumps == 0 then Some NoZone else None

abbrev pub dump_of : BlkState → BlkTime → Bool → Reason → List ℕ → List Write
dump_of b time packed reason body = dump_writes (dump_zone b.layout b.cursor) time packed
    (counter_for reason b.counters) reason body

-- the same in pieces
abbrev pub dump_pieces_of : BlkState → BlkTime → Bool → Reason → List ℕ → List Write
dump_pieces_of b time packed reason body = dump_pieces (dump_zone b.layout b.cursor) time packed
    (counter_for reason b.counters) reason body

abbrev pub dumped : BlkState → Reason → BlkState
dumped b reason = record b { cursor = (b.cursor + 1) % b.layout.dumps; counters = counted reason b.counters }

-- the listed records in order: dumps by rising number, console, pmsg
abbrev pub name_if : BlkName → Option (List ℕ) → List BlkName
name_if name None = []
name_if name (Some log) = name ∷ []

unfoldable pub names_of : BlkState → List BlkName
names_of b = map dump_name b.dumps ++ name_if Console b.console.saved ++ name_if Pmsg b.pmsg.saved

abbrev pub is_listed : BlkState → BlkName → Bool
is_listed b name = list_any (is_name name) (names_of b)

-- the content of a listed record
unfoldable pub content_of : BlkState → BlkName → Option (List ℕ)
content_of b (Dump index packed) = option_map dump_content
    (find (λ (d : BlkDump). is_name (Dump index packed) (dump_name d)) b.dumps)
content_of b Console = b.console.saved
content_of b Pmsg = b.pmsg.saved

-- the time of the listed dump of this number
unfoldable pub time_of : BlkState → ℕ → Option BlkTime
time_of b index = option_map (λ (d : BlkDump). d.time) (find (λ (d : BlkDump). d.index == index) b.dumps)

-- an erasure empties the zone of a listed record, and forgets the record
abbrev pub erase_refusal : BlkState → BlkName → Option BlkFault
erase_refusal b name = if is_listed b name then None else Some NoRecord

abbrev pub zone_of : BlkLayout → BlkName → BlkZone
zone_of l (Dump index packed) = dump_zone l index
zone_of l Console = ring_zone l ConsoleRing
zone_of l Pmsg = ring_zone l PmsgRing

abbrev pub erase_of : BlkState → BlkName → List Write
erase_of b name = header_write (zone_of b.layout name) empty_words ∷ []

abbrev pub empty_ring : RingState
empty_ring = record { words = empty_words; saved = None }

abbrev pub erased : BlkState → BlkName → BlkState
erased b (Dump index packed) = record b {
  dumps = filter
      (λ (d : BlkDump). not (is_name (Dump index packed) (dump_name d))) b.dumps;
}
erased b Console = record b { console = empty_ring }
erased b Pmsg = record b { pmsg = empty_ring }

-- the limit of a cut
abbrev pub cut_after : BlkState → ℕ → BlkState
cut_after b limit = record b { cut = limited limit b.cut }
