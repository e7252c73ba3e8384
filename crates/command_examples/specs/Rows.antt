-- The tool's worked rows: text, status, and bytes that are written
use Rattle.std.specs.Prelude.{◌≡◌, ℕ, ◌-◌, List, [], ◌∷◌, ◌++◌, length, take, flat_map, codes, replicate, Some, None}
use Rattle.zone_examples.specs.Ftrace.{entry}
use Rattle.script_spec.specs.Generated.{draws}
use Rattle.command_examples.specs.Words.{told, written, lone, blk_told}

-- draws below 1000, from 0 on
abbrev pub FirstDraws : Type 0
FirstDraws = (draws 3 1000 0).0 ≡ 563 ∷ 577 ∷ 494 ∷ []

-- `abc` written, read by the next boot, listed and extracted
abbrev pub FirstConsoleRecord : Type 0
FirstConsoleRecord =
    told (codes "image run " ++ lone) (replicate 4096 0)
    (codes "boot\nwrite console 616263\nstop\nboot\nlist\nextract console-ramoops-0\n")
    ≡ (codes "boot console unsigned start 0 size 0 corrected 0 bad 0 nothing told\nboot console found start 3 size 3 corrected 0 bad 0 as told\nrecords 1\nconsole-ramoops-0 3\nconsole-ramoops-0 3\nabc\n", 0)

-- a second write, stopped after its first store
abbrev pub CutAfterSizeWord : Type 0
CutAfterSizeWord =
    told (codes "image run " ++ lone) (replicate 4096 0)
    (codes "boot\nwrite console 616263\nbegin write console 646566\nstep console 1\nstop\nboot\nlist\n")
    ≡ (codes "boot console unsigned start 0 size 0 corrected 0 bad 0 nothing told\nboot console found start 3 size 6 corrected 0 bad 0 differs told 3 read 6 first 0\ncut console write 1 of 5 header pair 1 blocks 0\nrecords 1\nconsole-ramoops-0 6\n", 0)

-- a boot that is stopped within its erasure, and after all its stores
abbrev pub StoppedBoots : Type 0
StoppedBoots =
    (told (codes "image run " ++ lone) (replicate 4096 0) (codes "boot\nwrite console 616263\nstop\nboot 1\nboot\n")
    ≡ (codes "boot console unsigned start 0 size 0 corrected 0 bad 0 nothing told\nboot stopped after 1 stores\nboot console found start 0 size 3 corrected 0 bad 0 as told\ncut console erase 1 of 2 header pair 1 blocks none\n", 0))
    × (told (codes "image run " ++ lone) (replicate 4096 0) (codes "boot 9\nboot\n")
    ≡ (codes "boot stopped after 3 stores\nboot console empty start 0 size 0 corrected 0 bad 0 as told\n", 0))

-- two dumps, of which one is erased
abbrev pub DumpsWithKeptZone : Type 0
DumpsWithKeptZone =
    told (codes "image run mem_size=1024 record_size=256 console_size=256 ftrace_size=0 pmsg_size=256")
    (replicate 1024 0)
    (codes "boot\ndump 1700000000 123 D 6f6e65\ndump 1700000001 0 D 74776f\nstop\nboot\nerase dmesg-ramoops-0\nlist\n")
    ≡ (codes "boot dump-0 unsigned start 0 size 0 corrected 0 bad 0 nothing told\nboot dump-1 unsigned start 0 size 0 corrected 0 bad 0 nothing told\nboot console unsigned start 0 size 0 corrected 0 bad 0 nothing told\nboot pmsg unsigned start 0 size 0 corrected 0 bad 0 nothing told\nboot dump-0 found start 27 size 27 corrected 0 bad 0 as told\nboot dump-1 found start 27 size 27 corrected 0 bad 0 as told\nboot console empty start 0 size 0 corrected 0 bad 0 as told\nboot pmsg empty start 0 size 0 corrected 0 bad 0 as told\nrecords 1\ndmesg-ramoops-1 3 1700000001.000000\n", 0)

-- two lines of the message log, and the first crash
abbrev pub FirstCrash : Type 0
FirstCrash =
    told (codes "image run mem_size=1024 record_size=256 console_size=256 ftrace_size=0 pmsg_size=256")
    (replicate 1024 0)
    (codes "boot\nkmsg 6f6e65\nkmsg 74776f\ncrash Panic 7 0\nstop\nboot\nlist\nextract dmesg-ramoops-0\n")
    ≡ (codes "boot dump-0 unsigned start 0 size 0 corrected 0 bad 0 nothing told\nboot dump-1 unsigned start 0 size 0 corrected 0 bad 0 nothing told\nboot console unsigned start 0 size 0 corrected 0 bad 0 nothing told\nboot pmsg unsigned start 0 size 0 corrected 0 bad 0 nothing told\nboot dump-0 found start 37 size 37 corrected 0 bad 0 as told\nboot dump-1 empty start 0 size 0 corrected 0 bad 0 as told\nboot console empty start 0 size 0 corrected 0 bad 0 as told\nboot pmsg empty start 0 size 0 corrected 0 bad 0 as told\nrecords 1\ndmesg-ramoops-0 22 7.000000\ndmesg-ramoops-0 22\nPanic#1 Part1\none\ntwo\n\n", 0)

-- the worked layouts; `ecc_dump=16` beside `ecc=1` is the same parity, so no line names it
abbrev pub WorkedLayouts : Type 0
WorkedLayouts =
    (told (codes "image layout mem_size=16384 ftrace_size=0 ecc=1") [] []
    ≡ (codes "mem 16384 parity 16 zones 4\ndump-0 at 0 size 4096 cap 3604 blocks 29\ndump-1 at 4096 size 4096 cap 3604 blocks 29\nconsole at 8192 size 4096 cap 3604 blocks 29\npmsg at 12288 size 4096 cap 3604 blocks 29\n", 0))
    × (told (codes "image layout mem_size=2048 record_size=512 console_size=256 ftrace_size=0 pmsg_size=0") [] []
    ≡ (codes "mem 2048 parity 0 zones 4\ndump-0 at 0 size 596 cap 584 blocks 5\ndump-1 at 596 size 596 cap 584 blocks 5\ndump-2 at 1192 size 596 cap 584 blocks 5\nconsole at 1788 size 256 cap 244 blocks 2\n", 0))
    × (told (codes "image layout mem_size=16384 ftrace_size=0 ecc=1 block_size=32 ecc_dump=0") [] []
    ≡ (codes "mem 16384 parity 16 zones 4\ndump-0 at 0 size 4096 cap 4084 blocks 128 parity 0 block 32\ndump-1 at 4096 size 4096 cap 4084 blocks 128 parity 0 block 32\nconsole at 8192 size 4096 cap 2708 blocks 85 parity 16 block 32\npmsg at 12288 size 4096 cap 2708 blocks 85 parity 16 block 32\n", 0))
    × (told (codes "image layout mem_size=16384 ftrace_size=0 ecc=1 ecc_dump=16") [] []
    ≡ told (codes "image layout mem_size=16384 ftrace_size=0 ecc=1") [] [])

-- what a script on zeros shows
abbrev pub refused : List ℕ → List ℕ × ℕ
refused script = told (codes "image run " ++ lone) (replicate 4096 0) script

-- scripts that are refused
abbrev pub WorkedRefusals : Type 0
WorkedRefusals =
    (refused (codes "boot") ≡ (codes "bad line 1\n", 9))
    × (refused (codes "boot\nwipe\n") ≡ (codes "bad line 2\n", 9))
    × (refused (codes "boot\nbegin write console 61\nbegin write console 62\n")
    ≡ (codes "boot console unsigned start 0 size 0 corrected 0 bad 0 nothing told\nline 3 refused: busy\n", 10))
    × (refused (codes "boot\nextract pmsg-ramoops-0\n")
    ≡ (codes "boot console unsigned start 0 size 0 corrected 0 bad 0 nothing told\nline 2 refused: no record\n", 10))
    × (refused (codes "flip 4096 1\n") ≡ (codes "line 1 refused: out of image\n", 10))
    × (refused (codes "write console 61\n") ≡ (codes "line 1 refused: is off\n", 10))
    × (refused (codes "cut 1\n") ≡ (codes "line 1 refused: not here\n", 10))
    × (refused [] ≡ ([], 0))

-- words, parameters, layouts and images that are refused
abbrev pub WorkedFaults : Type 0
WorkedFaults =
    (told (codes "image run mem_size=16777217") [] [] ≡ (codes "layout fault 3\n", 3))
    × (told (codes "image run mem_size=256 record_size=0 console_size=256 ftrace_size=0 pmsg_size=0 ecc=127") [] []
    ≡ (codes "layout fault 7\n", 3))
    × (told (codes "image layout mem_size=16384 ftrace_size=0 ecc=1 block_size=100") [] []
    ≡ (codes "layout fault 11\n", 3))
    × (told (codes "x run mem_size=4096 mem_size=1") [] [] ≡ (codes "parameter fault 2 at word 4\n", 3))
    × (told (codes "x extract run mem_size=4096 mem_size=1") [] [] ≡ (codes "parameter fault 2 at word 5\n", 3))
    × (told (codes "x run mem_size=16384 ftrace_size=0") (replicate 16383 0) []
    ≡ (codes "image has 16383 bytes, 16384 needed\n", 4))
    × (told (codes "x") [] [] ≡ (codes "usage: oopsbox IMAGE COMMAND key=value ..\n", 2))
    × (told (codes "--help") [] [] ≡ (codes "usage: oopsbox IMAGE COMMAND key=value ..\n", 2))
    × (told (codes "-h") [] [] ≡ (codes "usage: oopsbox IMAGE COMMAND key=value ..\n", 2))
    × (told (codes "help") [] [] ≡ (codes "usage: oopsbox IMAGE COMMAND key=value ..\n", 2))
    × (told (codes "x walk") [] [] ≡ (codes "usage: oopsbox IMAGE COMMAND key=value ..\n", 2))
    × (told (codes "x extract") [] [] ≡ (codes "usage: oopsbox IMAGE COMMAND key=value ..\n", 2))
    × (told (codes "x make 01") [] [] ≡ (codes "usage: oopsbox IMAGE COMMAND key=value ..\n", 2))
    × (told (codes "x make 4294967296") [] [] ≡ (codes "usage: oopsbox IMAGE COMMAND key=value ..\n", 2))

-- an image with the console record `abc`
abbrev pub with_record : List ℕ
with_record = codes "DBGC" ++ 3 ∷ 0 ∷ 0 ∷ 0 ∷ 3 ∷ 0 ∷ 0 ∷ 0 ∷ codes "abc" ++ replicate 4081 0

-- the commands without a script: no boot lines, a content alone, and a name refused as the second line
abbrev pub CommandsWithoutScript : Type 0
CommandsWithoutScript =
    (told (codes "image list " ++ lone) with_record [] ≡ (codes "records 1\nconsole-ramoops-0 3\n", 0))
    × (told (codes "image extract console-ramoops-0 " ++ lone) with_record [] ≡ (codes "abc", 0))
    × (told (codes "image extract pmsg-ramoops-0 " ++ lone) with_record [] ≡ (codes "line 2 refused: no record\n", 10))
    × (told (codes "image erase console-ramoops-0 " ++ lone) with_record [] ≡ ([], 0))
    × (told (codes "image erase no-name " ++ lone) with_record [] ≡ (codes "line 2 refused: no record\n", 10))
    × (told (codes "image blank " ++ lone) [] [] ≡ ([], 0))

-- a console record and a dump on the block store, read by the next loading, listed and extracted
abbrev pub FirstBlockSession : Type 0
FirstBlockSession =
    blk_told (replicate 16384 0)
    (codes "boot\nwrite console 616263\nkdump 5 6000 D Panic 78\nboot\nlist\nextract dmesg-pstore_blk-0\n")
    ≡ (codes "records 2\ndmesg-pstore_blk-0 22 5.000006000\nconsole-pstore_blk-0 3\ndmesg-pstore_blk-0 22\nPanic: Total 1 times\nx\n", 0)

-- a write that is cut within its data, and the next loading
abbrev pub CutBlockWrite : Type 0
CutBlockWrite =
    blk_told (replicate 16384 0)
    (codes "boot\nwrite console 616263\ncut 5\nwrite console 6465666768\nboot\nextract console-pstore_blk-0\n")
    ≡ (codes "console-pstore_blk-0 3\nabc\n", 0)

-- three bytes and a header are 15: a cut there drops none, and another limit counts; one byte less is a loss of power
abbrev pub CutAtTheEnd : Type 0
CutAtTheEnd =
    (blk_told (replicate 16384 0)
    (codes "boot\ncut 15\nwrite console 616263\ncut 100\nwrite console 64\nboot\nextract console-pstore_blk-0\n")
    ≡ (codes "console-pstore_blk-0 4\nabcd\n", 0))
    × (blk_told (replicate 16384 0)
    (codes "boot\ncut 14\nwrite console 616263\ncut 100\nwrite console 64\nboot\nextract console-pstore_blk-0\n")
    ≡ (codes "console-pstore_blk-0 3\nabc\n", 0))

-- a dump in the zone of a listed one: that is listed as it was saved, up to the next loading
abbrev pub OverwrittenDump : Type 0
OverwrittenDump =
    blk_told (replicate 16384 0)
    (codes "boot\nkdump 5 6000 D Panic 78\nboot\nkdump 9 0 D Oops 7a\nlist\nextract dmesg-pstore_blk-0\nboot\nlist\n")
    ≡ (codes "records 1\ndmesg-pstore_blk-0 22 5.000006000\ndmesg-pstore_blk-0 22\nPanic: Total 1 times\nx\nrecords 1\ndmesg-pstore_blk-0 21 9.000000000\n", 0)

-- lines that the block store refuses
abbrev pub BlockRefusals : Type 0
BlockRefusals =
    (blk_told (replicate 16384 0) (codes "write console 61\n") ≡ (codes "line 1 refused: is off\n", 10))
    × (blk_told (replicate 16384 0) (codes "stop\n") ≡ (codes "line 1 refused: not here\n", 10))
    × (blk_told (replicate 16384 0) (codes "boot\nwrite ftrace-0 61\n") ≡ (codes "line 2 refused: no zone\n", 10))
    × (blk_told (replicate 16384 0) (codes "boot\nextract console-pstore_blk-0\n")
    ≡ (codes "line 2 refused: no record\n", 10))

-- ---- images of zones of 256 bytes without parity

-- such a zone with these words and this data, and zeros behind it
abbrev pub small_ring : ℕ → ℕ → List ℕ → List ℕ
small_ring start size log =
    codes "DBGC" ++ start ∷ 0 ∷ 0 ∷ 0 ∷ size ∷ 0 ∷ 0 ∷ 0 ∷ log ++ replicate (244 - length log) 0

abbrev pub two_rings : List ℕ
two_rings = codes "mem_size=512 record_size=0 console_size=256 ftrace_size=0 pmsg_size=256"

-- ---- moves

-- a dump, an unsigned dump zone, a full console that begins at its third byte, and a pmsg record
abbrev pub saved_board : List ℕ
saved_board =
    small_ring 16 16 (codes "====5.000006-D\nx") ++ replicate 256 0
    ++ small_ring 2 244 (codes "yzabc" ++ replicate 239 46) ++ small_ring 3 3 (codes "abc")

abbrev pub board_move : List ℕ
board_move = codes "x move mem_size=1024 record_size=256 console_size=256 ftrace_size=0 pmsg_size=256 to mem_size=512 record_size=256 console_size=256 ftrace_size=0 pmsg_size=0"

-- the new layout has no pmsg zone; the console's log begins at its first place
abbrev pub FirstMove : Type 0
FirstMove =
    (told board_move saved_board []
    ≡ (codes "move 1024 to 512 records 3\nmoved dmesg-ramoops-0 1 corrected 0 bad 0\nmoved console-ramoops-0 244 corrected 0 bad 0\nleft pmsg-ramoops-0 3 corrected 0 bad 0\n", 0))
    × (written board_move saved_board []
    ≡ Some (small_ring 16 16 (codes "====5.000006-D\nx")
    ++ small_ring 0 244 (codes "abc" ++ replicate 239 46 ++ codes "yz")))

-- with 16 parity bytes a zone of 256 bytes has 196 for data: a log of 196 fits, and one of 197 does not
abbrev pub MoveToParity : Type 0
MoveToParity =
    told (codes "x move " ++ two_rings ++ codes " to " ++ two_rings ++ codes " ecc=1")
    (small_ring 196 196 (replicate 196 97) ++ small_ring 197 197 (replicate 197 98)) []
    ≡ (codes "move 512 to 512 records 2\nmoved console-ramoops-0 196 corrected 0 bad 0\nleft pmsg-ramoops-0 197 corrected 0 bad 0\n", 0)

-- the image of two processors, moved to that of one
abbrev pub to_one_processor : List ℕ
to_one_processor = codes "x move mem_size=512 record_size=0 console_size=0 ftrace_size=512 pmsg_size=0 cpus=2 to mem_size=256 record_size=0 console_size=0 ftrace_size=256 pmsg_size=0"

-- a record of two zones is moved only if there is a zone for each that was found
abbrev pub MoveOfTwoZones : Type 0
MoveOfTwoZones =
    (told to_one_processor (small_ring 24 24 (entry 5 0) ++ small_ring 24 24 (entry 7 1)) []
    ≡ (codes "move 512 to 256 records 1\nleft ftrace-ramoops-0 48 corrected 0 bad 0\n", 0))
    × (written to_one_processor (small_ring 24 24 (entry 5 0) ++ small_ring 24 24 (entry 7 1)) []
    ≡ Some (small_ring 0 0 []))
    × (told to_one_processor (small_ring 24 24 (entry 5 0) ++ small_ring 0 0 []) []
    ≡ (codes "move 512 to 256 records 1\nmoved ftrace-ramoops-0 24 corrected 0 bad 0\n", 0))
    × (written to_one_processor (small_ring 24 24 (entry 5 0) ++ small_ring 0 0 []) []
    ≡ Some (small_ring 24 24 (entry 5 0)))

-- a dump zone without a time line is no record, and is not moved
abbrev pub MoveOfUnlistedDump : Type 0
MoveOfUnlistedDump =
    let words = codes "mem_size=512 record_size=256 console_size=256 ftrace_size=0 pmsg_size=0" in
    let line = codes "x move " ++ words ++ codes " to " ++ words in
    (told line (small_ring 3 3 (codes "abc") ++ small_ring 0 0 []) [] ≡ (codes "move 512 to 512 records 0\n", 0))
    × (written line (small_ring 3 3 (codes "abc") ++ small_ring 0 0 []) []
    ≡ Some (small_ring 0 0 [] ++ small_ring 0 0 []))

-- one `to`; the faults of both lists of parameters come before those of the layouts, and the first layout's before the
-- second one's; the image is that of the first
abbrev pub MoveRefusals : Type 0
MoveRefusals =
    (told (codes "x move mem_size=4096") [] [] ≡ (codes "usage: oopsbox IMAGE COMMAND key=value ..\n", 2))
    × (told (codes "x move to to") [] [] ≡ (codes "usage: oopsbox IMAGE COMMAND key=value ..\n", 2))
    × (told (codes "x move mem_size=16777217 to mem_size=1 mem_size=1") [] []
    ≡ (codes "parameter fault 2 at word 6\n", 3))
    × (told (codes "x move mem_size=16384 to mem_size=16777217") [] [] ≡ (codes "layout fault 3\n", 3))
    × (told (codes "x move mem_size=16777217 to mem_size=16384 ftrace_size=0 ecc=1 block_size=100") [] []
    ≡ (codes "layout fault 3\n", 3))
    × (told (codes "x move " ++ two_rings ++ codes " to " ++ lone) (replicate 511 0) []
    ≡ (codes "image has 511 bytes, 512 needed\n", 4))

-- ---- a shared zone

abbrev pub sharing : List ℕ → List ℕ
sharing more = codes "image shared-run mem_size=512 record_size=0 console_size=256 ftrace_size=256 pmsg_size=0" ++ more

-- two writers, of which the first has one byte to store; the boot before them empties the console
abbrev pub TwoWriters : Type 0
TwoWriters =
    let image = small_ring 3 3 (codes "abc") ++ replicate 256 0 in
    let script = codes "reserve 6161\nreserve 6262\nstore 1 2\nstore 0 1\n" in
    (told (sharing []) image script
    ≡ (codes "shared calls 2 done 1 open 1 start 4 size 4\nopen 0 place 0 length 2 stored 1\n", 0))
    × (written (sharing []) image script
    ≡ Some (small_ring 0 0 (codes "abc") ++ small_ring 4 4 (codes "a" ++ 0 ∷ codes "bb")))

-- a writer of a ring that has a log already
abbrev pub LaterWriter : Type 0
LaterWriter =
    let image = small_ring 0 0 [] ++ small_ring 3 3 (codes "abc") in
    let script = codes "reserve 646566\n\nstore 0 2\n" in
    (told (sharing []) image script
    ≡ (codes "shared calls 1 done 0 open 1 start 6 size 6\nopen 0 place 3 length 3 stored 2\n", 0))
    × (written (sharing []) image script ≡ Some (small_ring 0 0 [] ++ small_ring 6 6 (codes "abcde")))

-- two digits of each byte of a payload of 243 bytes
abbrev pub long_payload : List ℕ
long_payload = replicate 486 54

-- 244 places: a third payload would reach the oldest open call, and once that is done there is room; 64 seats; a call
-- that is done; a line of another command; zones that are missing, or have parity
abbrev pub SharedRefusals : Type 0
SharedRefusals =
    (told (sharing []) (replicate 512 0) (codes "reserve 61\nreserve " ++ long_payload ++ codes "\nreserve 61\n")
    ≡ (codes "line 3 refused: crowded\n", 10))
    × (told (sharing []) (replicate 512 0)
    (codes "reserve 61\nreserve " ++ long_payload ++ codes "\nstore 0 1\nreserve 61\n")
    ≡ (codes "shared calls 3 done 1 open 2 start 1 size 244\nopen 1 place 1 length 243 stored 0\nopen 2 place 0 length 1 stored 0\n", 0))
    × (told (sharing []) (replicate 512 0) (flat_map (λ line. line) (replicate 65 (codes "reserve 61\n")))
    ≡ (codes "line 65 refused: no seat\n", 10))
    × (told (sharing []) (replicate 512 0) (codes "reserve 61\nstore 0 9\nstore 0 0\n")
    ≡ (codes "line 3 refused: idle\n", 10))
    × (told (sharing []) (replicate 512 0) (codes "boot\n") ≡ (codes "line 1 refused: not here\n", 10))
    × (written (sharing []) (replicate 512 0) (codes "reserve 61\nboot\n") ≡ None)
    × (told (sharing (codes " ecc=1")) [] [] ≡ (codes "layout fault 12\n", 3))
    × (told (codes "image shared-run " ++ lone) [] [] ≡ (codes "layout fault 12\n", 3))

-- ---- rings in a dump

-- a full ring that begins at its third byte, behind two bytes
abbrev pub small_dump : List ℕ
small_dump = 0 ∷ 0 ∷ small_ring 2 244 (codes "yzabc" ++ replicate 239 46)

-- the ring and its log: pmsg has the console's shape, and there is no dump zone
abbrev pub RingInDump : Type 0
RingInDump =
    (told (codes "ram salvage " ++ two_rings) small_dump []
    ≡ (codes "salvage rings 1\nring at 2 shape console start 2 size 244 corrected 0\n", 0))
    × (told (codes "ram salvage " ++ two_rings) [] [] ≡ (codes "salvage rings 0\n", 0))
    × (told (codes "ram rescue 2 pmsg " ++ two_rings) small_dump []
    ≡ (codes "abc" ++ replicate 239 46 ++ codes "yz", 0))
    × (told (codes "ram rescue 0 pmsg " ++ two_rings) small_dump [] ≡ (codes "line 1 refused: no ring\n", 10))
    × (told (codes "ram rescue 2 dump-0 " ++ two_rings) small_dump [] ≡ (codes "line 1 refused: no zone\n", 10))
    × (told (codes "ram rescue 2 " ++ two_rings) small_dump []
    ≡ (codes "usage: oopsbox IMAGE COMMAND key=value ..\n", 2))

-- zones of 256 and of 512 bytes: both shapes fit at one place
abbrev pub TwoShapesAtOnePlace : Type 0
TwoShapesAtOnePlace =
    told (codes "ram salvage mem_size=1024 record_size=0 console_size=256 ftrace_size=0 pmsg_size=512")
    (0 ∷ 0 ∷ small_ring 3 3 (codes "abc") ++ replicate 256 0) []
    ≡ (codes "salvage rings 2\nring at 2 shape console start 3 size 3 corrected 0\nring at 2 shape pmsg start 3 size 3 corrected 0\n", 0)

abbrev pub has_no_ring : List ℕ → Type 0
has_no_ring dump = told (codes "ram salvage " ++ two_rings) dump [] ≡ (codes "salvage rings 0\n", 0)

-- an odd place; no byte in the ring; start above size; size above the capacity; one byte too few for the shape;
-- and what is read at the odd place
abbrev pub NoRingInDump : Type 0
NoRingInDump =
    has_no_ring (0 ∷ small_ring 3 3 (codes "abc"))
    × has_no_ring (small_ring 0 0 [])
    × has_no_ring (small_ring 4 3 (codes "abc"))
    × has_no_ring (small_ring 0 245 [])
    × has_no_ring (take 255 (small_ring 3 3 (codes "abc")))
    × (told (codes "ram rescue 1 console " ++ two_rings) (0 ∷ small_ring 3 3 (codes "abc")) []
    ≡ (codes "line 1 refused: no ring\n", 10))

-- a console of 256 bytes with two parity bytes: the first byte of the header and that of the data differ; then the
-- parity of its two blocks, and that of its header
abbrev pub flipped_dump : List ℕ
flipped_dump =
    codes "EBGC" ++ 3 ∷ 0 ∷ 0 ∷ 0 ∷ 3 ∷ 0 ∷ 0 ∷ 0 ∷ codes "`bc" ++ replicate 235 0 ++ 0xe3 ∷ 0x83 ∷ 0 ∷ 0 ∷ 0xfb ∷ 0xf9
    ∷ []

abbrev pub lone_with_parity : List ℕ
lone_with_parity = codes "mem_size=256 record_size=0 console_size=256 ftrace_size=0 pmsg_size=0 ecc=2"

-- the header is corrected where the ring is found, the data where it is read
abbrev pub CorrectedRing : Type 0
CorrectedRing =
    (told (codes "ram salvage " ++ lone_with_parity) flipped_dump []
    ≡ (codes "salvage rings 1\nring at 0 shape console start 3 size 3 corrected 1\n", 0))
    × (told (codes "ram rescue 0 console " ++ lone_with_parity) flipped_dump [] ≡ (codes "abc", 0))
