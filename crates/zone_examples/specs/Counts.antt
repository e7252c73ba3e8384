-- Numbers of stores, their order, and pairs
use Rattle.std.specs.Prelude.{◌≡◌, ℕ, ◌+◌, ◌%◌, List, [], ◌∷◌, ◌++◌, map, drop, replicate, sum_by, codes}
use Rattle.std.specs.List.{range_with_len}
use Rattle.zone_spec.specs.declared.Zone.{Zone}
use Rattle.zone_spec.specs.declared.Words.{Words}
use Rattle.zone_spec.specs.declared.Pair.{Pair}
use Rattle.zone_spec.specs.Parts.{Header, Block}
use Rattle.zone_spec.specs.Told.{Call, Append, Erase, Dump, told_after}
use Rattle.zone_spec.specs.Stages.{StartWord, SizeWord, Run, ParityOf, stage_count}
use Rattle.zone_spec.specs.Calls.{call_stages}
use Rattle.zone_spec.specs.declared.Kind.TheVariants.{Dump as DumpKind}
use Rattle.zone_spec.specs.declared.HeaderSeen.TheVariants.{Pair as Seen, Foreign}
use Rattle.zone_spec.specs.Ring.{IsOpen, IsOpenUnlessDump}
use Rattle.zone_spec.specs.Pairs.{pairs_from, pair_of, header_seen}
use Rattle.zone_spec.specs.Touched.{runs_of}
use Rattle.zone_examples.specs.Zones.{console, plain_zone, small_zone, console_of_two, console_of_sixteen}
use Rattle.zone_examples.specs.Scenes.{abc}

-- the words of a ring
abbrev pub ring : ℕ → ℕ → Words
ring start size = record { sig = 0x43474244; start = start; size = size }

-- how many stores a call makes on a ring
abbrev pub stores : Zone → Words → Call → ℕ
stores z w call = sum_by (stage_count z) (call_stages z w call)

abbrev pub StoresOfErasure : Type 0
StoresOfErasure =
    (stores (plain_zone console 0) (ring 3 3) Erase ≡ 2) × (stores console_of_two (ring 3 3) Erase ≡ 4)
    × (stores console_of_sixteen (ring 3 3) Erase ≡ 18)

-- an append: a word or two, its bytes, the parity of the blocks that it meets, and that of the header
abbrev pub StoresOfAppend : Type 0
StoresOfAppend =
    (stores (plain_zone console 0) (ring 3 3) (Append abc) ≡ 5)
    × (stores console_of_two (ring 3 3) (Append abc) ≡ 9)
    × (stores console_of_sixteen (ring 3 3) (Append abc) ≡ 37)
    × (stores (plain_zone console 0) (ring 0 4084) (Append (0x62 ∷ [])) ≡ 2)
    × (stores console_of_two (ring 0 4018) (Append (replicate 1541 0x62)) ≡ 1570)
    × (stores (plain_zone console 0) (ring 3 3) (Append []) ≡ 0)

-- a dump: an erasure, the append of its line, and the append of its body where that has bytes
abbrev pub line : List ℕ
line = codes "====5.000006-D\n"

abbrev pub StoresOfDump : Type 0
StoresOfDump =
    (stores (plain_zone console 0) (ring 0 0) (Dump line (codes "x")) ≡ 22)
    × (stores (plain_zone console 0) (ring 0 0) (Dump line []) ≡ 19)
    × (stores console_of_sixteen (ring 0 0) (Dump line (codes "x"))
    ≡ 2 + 16 + (1 + 15 + 16 + 16 + 1) + (1 + 1 + 16 + 16 + 1))

-- the words that a dump goes through, start first
abbrev pub words_gone_through : Zone → Words → Call → List Pair
words_gone_through z w call = pairs_from (pair_of w) (call_stages z w call)

abbrev pub pair : ℕ → ℕ → Pair
pair start size = record { start = start; size = size }

abbrev pub PairsOfDump : Type 0
PairsOfDump =
    words_gone_through (plain_zone console 0) (ring 27 27) (Dump line (codes "x"))
    ≡ pair 27 27 ∷ pair 0 27 ∷ pair 0 0 ∷ pair 0 15 ∷ pair 15 15 ∷ pair 15 16 ∷ pair 16 16 ∷ []

-- an erasure stores start first, an append size first
abbrev pub PairsOfErasureAndAppend : Type 0
PairsOfErasureAndAppend =
    (words_gone_through (plain_zone console 0) (ring 3 7) Erase ≡ pair 3 7 ∷ pair 0 7 ∷ pair 0 0 ∷ [])
    × (words_gone_through (plain_zone console 0) (ring 3 3) (Append abc) ≡ pair 3 3 ∷ pair 3 6 ∷ pair 6 6 ∷ [])

-- a payload longer than the ring is its last cap bytes
abbrev pub long : List ℕ
long = map (λ i. i % 251) (range_with_len 0 5000)

abbrev pub PayloadLongerThanRing : Type 0
PayloadLongerThanRing =
    (told_after 4084 (Append long) [] ≡ drop 916 long)
    × (call_stages (plain_zone console 0) (ring 0 0) (Append long)
    ≡ SizeWord 4084 ∷ StartWord 0 ∷ Run 0 (drop 916 long) ∷ map (λ b. ParityOf (Block b)) (range_with_len 0 32)
    ++ ParityOf Header ∷ [])

-- of 256 bytes: a full ring that is appended all its bytes stores start, and the parity of the block
-- that both runs meet twice
abbrev pub FullRingOverwritten : Type 0
FullRingOverwritten =
    (call_stages (small_zone console 1788) (ring 100 244) (Append (replicate 244 0x61))
    ≡ StartWord 100
    ∷ Run 100 (replicate 144 0x61) ∷ ParityOf (Block 0) ∷ ParityOf (Block 1)
    ∷ Run 0 (replicate 100 0x61) ∷ ParityOf (Block 0)
    ∷ ParityOf Header ∷ [])

-- the runs of touched blocks
abbrev pub RunsOfBlocks : Type 0
RunsOfBlocks =
    (runs_of (0 ∷ 1 ∷ 2 ∷ []) ≡ (0, 2) ∷ []) × (runs_of (0 ∷ 2 ∷ 3 ∷ 7 ∷ []) ≡ (0, 0) ∷ (2, 3) ∷ (7, 7) ∷ [])
    × (runs_of [] ≡ [])

-- the pair that a header reads is the least, and only one with the zone's signature
abbrev pub PairSeen : Type 0
PairSeen =
    (header_seen (plain_zone console 0) (ring 0 0) (pair 0 0 ∷ pair 0 0 ∷ pair 0 0 ∷ []) ≡ Seen 0)
    × (header_seen (plain_zone console 0) (ring 3 6) (pair 3 3 ∷ pair 3 6 ∷ pair 6 6 ∷ []) ≡ Seen 1)
    × (header_seen (plain_zone console 0) (ring 6 3) (pair 3 3 ∷ pair 3 6 ∷ pair 6 6 ∷ []) ≡ Foreign)
    × (header_seen (plain_zone console 0) (record { sig = 0x40474244; start = 3; size = 3 }) (pair 3 3 ∷ []) ≡ Foreign)

-- a dump or an erasure may begin in a kept dump zone that reads start as cap, an append may not
abbrev pub StartAtCap : Type 0
StartAtCap =
    IsOpenUnlessDump DumpKind (ring 4084 4084) 4084 × ((IsOpen (ring 4084 4084) 4084) → ⊥)
