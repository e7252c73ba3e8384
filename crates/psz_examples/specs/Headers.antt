-- Headers of dumps, and what a boot takes dump zones for
use Rattle.std.specs.Prelude.{◌≡◌, ℕ, true, false, List, [], ◌∷◌, drop, slice_set}
use Rattle.psz_spec.specs.declared.Kind.TheVariants.{Dump}
use Rattle.psz_spec.specs.declared.Machine.TheVariants.{Aligned, X86, BigEndian}
use Rattle.psz_spec.specs.declared.Zone.{Zone}
use Rattle.psz_spec.specs.declared.State.TheVariants.{Unsigned, Overtop, NoDump, Erased, Broken, Found}
use Rattle.psz_spec.specs.Headers.{dump_header}
use Rattle.psz_spec.specs.States.{state_of}
use Rattle.psz_examples.specs.Layouts.{zone}

-- the first 52 bytes of the second zone of the capture stock-64: DBGC, 3420 bytes, 0; the magic number, four bytes of
-- padding, 1795946415 seconds, 306761517 nanoseconds, packed, the second oops
unfoldable pub wide_front : List ℕ
wide_front =
    68 ∷ 66 ∷ 71 ∷ 67 ∷ 92 ∷ 13 ∷ 0 ∷ 0 ∷ 0 ∷ 0 ∷ 0 ∷ 0
    ∷ 229 ∷ 58 ∷ 252 ∷ 77 ∷ 0 ∷ 0 ∷ 0 ∷ 0 ∷ 175 ∷ 247 ∷ 11 ∷ 107 ∷ 0 ∷ 0 ∷ 0 ∷ 0
    ∷ 45 ∷ 207 ∷ 72 ∷ 18 ∷ 0 ∷ 0 ∷ 0 ∷ 0 ∷ 1 ∷ 0 ∷ 0 ∷ 0 ∷ 2 ∷ 0 ∷ 0 ∷ 0 ∷ 2 ∷ 0 ∷ 0 ∷ 0 ∷ 0 ∷ 0 ∷ 0 ∷ 0 ∷ []

abbrev pub WideHeaderRow : Type 0
WideHeaderRow = dump_header Aligned (drop 12 wide_front) ≡ record {
  magic = 0x4dfc3ae5;
  secs = 1_795_946_415;
  nanos = 306_761_517;
  packed = true;
  count = 2;
  reason = 2;
}

-- the first 40 bytes of the capture stock-32: DBGC, 8152 bytes, 0; the magic number, 1795989148 seconds, 262995475
-- nanoseconds, not packed, the first oops
unfoldable pub x86_front : List ℕ
x86_front =
    68 ∷ 66 ∷ 71 ∷ 67 ∷ 216 ∷ 31 ∷ 0 ∷ 0 ∷ 0 ∷ 0 ∷ 0 ∷ 0
    ∷ 229 ∷ 58 ∷ 252 ∷ 77 ∷ 156 ∷ 158 ∷ 12 ∷ 107 ∷ 0 ∷ 0 ∷ 0 ∷ 0 ∷ 19 ∷ 254 ∷ 172 ∷ 15
    ∷ 0 ∷ 0 ∷ 0 ∷ 0 ∷ 1 ∷ 0 ∷ 0 ∷ 0 ∷ 2 ∷ 0 ∷ 0 ∷ 0 ∷ []

abbrev pub X86HeaderRow : Type 0
X86HeaderRow = dump_header X86 (drop 12 x86_front) ≡ record {
  magic = 0x4dfc3ae5;
  secs = 1_795_989_148;
  nanos = 262_995_475;
  packed = false;
  count = 1;
  reason = 2;
}

-- the dump zone of 64 bytes at the front
abbrev pub small : Zone
small = zone Dump 0 0 64

-- erasing sets the length to 0 and leaves all other bytes
abbrev pub ErasedRow : Type 0
ErasedRow = state_of Aligned small (slice_set (slice_set wide_front 4 0) 5 0) ≡ Erased

abbrev pub UnwrittenRow : Type 0
UnwrittenRow = state_of Aligned small (slice_set wide_front 0 0) ≡ Unsigned

-- 3420 bytes are more than a zone of 64 holds
abbrev pub OvertopRow : Type 0
OvertopRow = state_of Aligned small wide_front ≡ Overtop

-- 15 bytes of length, and another magic number
abbrev pub NoDumpRow : Type 0
NoDumpRow = state_of Aligned small (slice_set (slice_set (slice_set wide_front 4 15) 5 0) 12 228) ≡ NoDump

-- 39 bytes of length, one less than the header has
abbrev pub ShortDumpRow : Type 0
ShortDumpRow = state_of Aligned small (slice_set (slice_set wide_front 4 39) 5 0) ≡ Broken

-- a length of 0, and another magic number: nothing tells that a dump was erased here
abbrev pub NoDumpEmptyRow : Type 0
NoDumpEmptyRow = state_of Aligned small (slice_set (slice_set (slice_set wide_front 4 0) 5 0) 12 228) ≡ NoDump

-- 40 bytes of length: the header, and nothing behind it
abbrev pub HeaderAloneRow : Type 0
HeaderAloneRow = state_of Aligned small (slice_set (slice_set wide_front 4 40) 5 0) ≡ Found

-- 52 bytes of length fill a zone of 64
abbrev pub FilledRow : Type 0
FilledRow = state_of Aligned small (slice_set (slice_set wide_front 4 52) 5 0) ≡ Found

abbrev pub OneMoreRow : Type 0
OneMoreRow = state_of Aligned small (slice_set (slice_set wide_front 4 53) 5 0) ≡ Overtop

-- ---- of big-endian machines

-- the dump of the capture stock-64 as a big-endian machine of 64 bits would write it: CGBD
unfoldable pub big_front : List ℕ
big_front =
    67 ∷ 71 ∷ 66 ∷ 68 ∷ 0 ∷ 0 ∷ 13 ∷ 92 ∷ 0 ∷ 0 ∷ 0 ∷ 0
    ∷ 77 ∷ 252 ∷ 58 ∷ 229 ∷ 0 ∷ 0 ∷ 0 ∷ 0 ∷ 0 ∷ 0 ∷ 0 ∷ 0 ∷ 107 ∷ 11 ∷ 247 ∷ 175
    ∷ 0 ∷ 0 ∷ 0 ∷ 0 ∷ 18 ∷ 72 ∷ 207 ∷ 45 ∷ 1 ∷ 0 ∷ 0 ∷ 0 ∷ 0 ∷ 0 ∷ 0 ∷ 2 ∷ 0 ∷ 0 ∷ 0 ∷ 2 ∷ 0 ∷ 0 ∷ 0 ∷ 0 ∷ []

abbrev pub BigHeaderRow : Type 0
BigHeaderRow = dump_header BigEndian (drop 12 big_front) ≡ record {
  magic = 0x4dfc3ae5;
  secs = 1_795_946_415;
  nanos = 306_761_517;
  packed = true;
  count = 2;
  reason = 2;
}

-- as one of 32 bits that pads would: 32 bits of nanoseconds, then 0
unfoldable pub big_narrow_front : List ℕ
big_narrow_front =
    67 ∷ 71 ∷ 66 ∷ 68 ∷ 0 ∷ 0 ∷ 13 ∷ 92 ∷ 0 ∷ 0 ∷ 0 ∷ 0
    ∷ 77 ∷ 252 ∷ 58 ∷ 229 ∷ 0 ∷ 0 ∷ 0 ∷ 0 ∷ 0 ∷ 0 ∷ 0 ∷ 1 ∷ 107 ∷ 11 ∷ 247 ∷ 175
    ∷ 18 ∷ 72 ∷ 207 ∷ 45 ∷ 0 ∷ 0 ∷ 0 ∷ 0 ∷ 0 ∷ 0 ∷ 0 ∷ 0 ∷ 0 ∷ 0 ∷ 0 ∷ 3 ∷ 0 ∷ 0 ∷ 0 ∷ 1 ∷ 0 ∷ 0 ∷ 0 ∷ 0 ∷ []

-- 2^32 seconds later, not packed, the third panic
abbrev pub BigNarrowHeaderRow : Type 0
BigNarrowHeaderRow = dump_header BigEndian (drop 12 big_narrow_front) ≡ record {
  magic = 0x4dfc3ae5;
  secs = 6_090_913_711;
  nanos = 306_761_517;
  packed = false;
  count = 3;
  reason = 1;
}

-- 52 bytes of length fill a zone of 64
abbrev pub BigFilledRow : Type 0
BigFilledRow = state_of BigEndian small (slice_set (slice_set big_front 6 0) 7 52) ≡ Found

-- 53 bytes are one too many
abbrev pub BigOneMoreRow : Type 0
BigOneMoreRow = state_of BigEndian small (slice_set (slice_set big_front 6 0) 7 53) ≡ Overtop

abbrev pub BigErasedRow : Type 0
BigErasedRow = state_of BigEndian small (slice_set (slice_set big_front 6 0) 7 0) ≡ Erased

-- a dump of the other order, both ways
abbrev pub BigAsLittleRow : Type 0
BigAsLittleRow = state_of Aligned small (slice_set (slice_set big_front 6 0) 7 52) ≡ Unsigned

abbrev pub LittleAsBigRow : Type 0
LittleAsBigRow = state_of BigEndian small (slice_set (slice_set wide_front 4 52) 5 0) ≡ Unsigned
