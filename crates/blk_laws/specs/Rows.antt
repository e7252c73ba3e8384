-- Worked rows of the block store: three zones of 4096 bytes, pmsg at 0, the console at 4096, a dump at 8192
use Rattle.std.specs.Prelude.{◌≡◌, ℕ, List, [], ◌∷◌, take, map, replicate, Some, false}
use Rattle.blk_spec.specs.declared.BlkZone.{BlkZone}
use Rattle.kmsg_spec.specs.declared.Reason.TheVariants.{Panic}
use Rattle.blk_spec.specs.Writes.{Write}
use Rattle.blk_spec.specs.Rings.{append_writes, empty_words}
use Rattle.blk_spec.specs.Dumps.{dump_writes}
use Rattle.blk_spec.specs.Reading.{saved_ring}

abbrev pub console : BlkZone
console = record { at = 4096; size = 4096; sig = 0x43474246 }

abbrev pub dump_zone : BlkZone
dump_zone = record { at = 8192; size = 4096; sig = 0x43474244 }

abbrev pub write_at : ℕ → List ℕ → Write
write_at at bytes = record { at = at; bytes = bytes }

abbrev pub FirstAppend : Type 0
FirstAppend =
    append_writes console empty_words (0x61 ∷ 0x62 ∷ 0x63 ∷ [])
    ≡ write_at 4108 (0x61 ∷ 0x62 ∷ 0x63 ∷ []) ∷ write_at 4096
    (0x46 ∷ 0x42 ∷ 0x47 ∷ 0x43 ∷ 3 ∷ 0 ∷ 0 ∷ 0 ∷ 3 ∷ 0 ∷ 0 ∷ 0 ∷ []) ∷ []

abbrev pub FullRingAppend : Type 0
FullRingAppend =
    append_writes console (record { size = 4084; start = 0 }) (0x21 ∷ [])
    ≡ write_at 4108 (0x21 ∷ []) ∷ write_at 4096 (0x46 ∷ 0x42 ∷ 0x47 ∷ 0x43 ∷ 1 ∷ 0 ∷ 0 ∷ 0 ∷ 1 ∷ 0 ∷ 0 ∷ 0 ∷ [])
    ∷ write_at 4096 (0x46 ∷ 0x42 ∷ 0x47 ∷ 0x43 ∷ 0xf4 ∷ 0x0f ∷ 0 ∷ 0 ∷ 1 ∷ 0 ∷ 0 ∷ 0 ∷ []) ∷ []

abbrev pub FirstDump : Type 0
FirstDump =
    map (λ (w : Write). write_at w.at (take 54 w.bytes))
    (dump_writes dump_zone (record { secs = 5; nanos = 6000 }) false 1 Panic (0x78 ∷ []))
    ≡ write_at 8192
    (0x44 ∷ 0x42 ∷ 0x47 ∷ 0x43 ∷ 0x29 ∷ 0 ∷ 0 ∷ 0 ∷ 0 ∷ 0 ∷ 0 ∷ 0
    ∷ 0xe5 ∷ 0x3a ∷ 0xfc ∷ 0x4d ∷ 0 ∷ 0 ∷ 0 ∷ 0 ∷ 5 ∷ 0 ∷ 0 ∷ 0 ∷ 0 ∷ 0 ∷ 0 ∷ 0
    ∷ 0x70 ∷ 0x17 ∷ 0 ∷ 0 ∷ 0 ∷ 0 ∷ 0 ∷ 0 ∷ 0 ∷ 0 ∷ 0 ∷ 0 ∷ 1 ∷ 0 ∷ 0 ∷ 0
    ∷ 1 ∷ 0 ∷ 0 ∷ 0 ∷ 0 ∷ 0 ∷ 0 ∷ 0 ∷ 0x78 ∷ 0 ∷ [])
    ∷ []

abbrev pub FirstRingRead : Type 0
FirstRingRead =
    saved_ring console (0x46 ∷ 0x42 ∷ 0x47 ∷ 0x43 ∷ 3 ∷ 0 ∷ 0 ∷ 0 ∷ 3 ∷ 0 ∷ 0 ∷ 0 ∷ 0x61 ∷ 0x62 ∷ 0x63
    ∷ replicate 4081 0)
    ≡ Some (0x61 ∷ 0x62 ∷ 0x63 ∷ [])
