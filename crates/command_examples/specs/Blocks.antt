-- Worked calls of the block store: an append that ends with the ring, and the counters of dumps
use Rattle.std.specs.Prelude.{◌≡◌, ℕ, false, [], ◌∷◌}
use Rattle.blk_spec.specs.declared.BlkZone.{BlkZone}
use Rattle.kmsg_spec.specs.declared.Reason.TheVariants.{Oops, Emergency}
use Rattle.blk_spec.specs.Rings.{append_writes}
use Rattle.blk_spec.specs.Dumps.{Counters, raised, counter_for, counted}
use Rattle.blk_spec.specs.Reading.{BlkDump, counters_of}

-- a console of 4096 bytes at 4096
abbrev pub console : BlkZone
console = record { at = 4096; size = 4096; sig = 0x43474246 }

-- a full ring whose next place is 4080: four bytes go up to its end, and the one header says that it is full
abbrev pub AppendToTheEnd : Type 0
AppendToTheEnd =
    append_writes console (record { size = 4084; start = 4080 }) (1 ∷ 2 ∷ 3 ∷ 4 ∷ [])
    ≡ record { at = 8188; bytes = 1 ∷ 2 ∷ 3 ∷ 4 ∷ [] }
    ∷ record { at = 4096; bytes = 0x46 ∷ 0x42 ∷ 0x47 ∷ 0x43 ∷ 0xf4 ∷ 0x0f ∷ 0 ∷ 0 ∷ 0 ∷ 0 ∷ 0 ∷ 0 ∷ [] } ∷ []

-- a counter stays at its last value
abbrev pub RaisedCounters : Type 0
RaisedCounters = (raised 4294967294 ≡ 4294967295) × (raised 4294967295 ≡ 4294967295)

abbrev pub counters : Counters
counters = record { panics = 3; oopses = 4 }

-- the other reasons have no counter
abbrev pub CountedDumps : Type 0
CountedDumps =
    (counter_for Emergency counters ≡ 0)
    × (counter_for Oops counters ≡ 5)
    × (counted Oops counters ≡ record { panics = 3; oopses = 5 })

abbrev pub dump : ℕ → ℕ → BlkDump
dump reason counter = record {
  index = 0;
  time = record { secs = 0; nanos = 0 };
  packed = false;
  counter = counter;
  reason = reason;
  body = [];
}

-- of each of the two reasons the greatest counter, wherever it stands
abbrev pub CountersRead : Type 0
CountersRead = counters_of (dump 1 7 ∷ dump 1 2 ∷ dump 2 9 ∷ dump 5 100 ∷ []) ≡ record { panics = 7; oopses = 9 }
