-- Worked rows: a region of 512 bytes with two empty zones without parity, and layouts that lose against theirs; the
-- same of a big-endian machine; the two orders of ftrace and pmsg
use Rattle.std.specs.Prelude.{◌≡◌, ℕ, true, false, List, [], ◌∷◌, ◌++◌, codes, map, replicate}
use Rattle.zone_spec.specs.declared.params.ByteOrder.{ByteOrder}
use Rattle.zone_spec.specs.declared.params.ByteOrder.TheVariants.{Little, Big}
use Rattle.zone_spec.specs.declared.params.Order.{Order}
use Rattle.zone_spec.specs.declared.params.Order.TheVariants.{FtracePmsg, PmsgFtrace}
use Rattle.layout_spec.specs.declared.Candidate.{Candidate}
use Rattle.layout_spec.specs.Laid.{zones_of, has_layout}
use Rattle.layout_spec.specs.Marks.{fits, marks, byte_order_in}
use Rattle.layout_spec.specs.Order.{faults, tally_of, key, is_before}
use Rattle.layout_spec.specs.Taken.{is_taken}

-- an empty header and zeros, twice
abbrev pub empty_zone : List ℕ
empty_zone = codes "DBGC" ++ replicate 252 0

abbrev pub two_empty : List ℕ
two_empty = empty_zone ++ empty_zone

abbrev pub layout_in : ByteOrder → ℕ → ℕ → ℕ → Candidate
layout_in bytes dump console pmsg = record {
  mem = 512;
  dump = dump;
  console = console;
  ftrace = 0;
  pmsg = pmsg;
  parity = 0;
  cpus = 1;
  tag = 0;
  order = FtracePmsg;
  byte_order = bytes;
}

abbrev pub layout : ℕ → ℕ → ℕ → Candidate
layout dump console pmsg = layout_in Little dump console pmsg

-- a console and a pmsg: both fit, no mark is left. Two dump zones, whose kinds nothing tells apart from these, come
-- behind it, and one console of all the memory behind both: it leaves a mark
abbrev pub TwoEmptyZones : Type 0
TwoEmptyZones =
    (marks two_empty ≡ 2)
    × (map (fits two_empty) (zones_of (layout 0 256 256)) ≡ true ∷ true ∷ [])
    × (has_layout (layout 0 256 256) ≡ true)
    × (is_before (key two_empty (layout 0 256 256)) (key two_empty (layout 256 0 0)) ≡ true)
    × (is_before (key two_empty (layout 256 0 0)) (key two_empty (layout 0 512 0)) ≡ true)
    × (faults two_empty (zones_of (layout 0 512 0)) ≡ 1)
    × (is_taken (tally_of two_empty (layout 0 256 256)) ≡ true)

-- the second header has lost a byte of its signature: it still is a mark, but fits no zone without parity. The two zones
-- are still taken, since one fits; with dump zones the other way round there are as many faults
abbrev pub one_damaged : List ℕ
one_damaged = empty_zone ++ 0 ∷ codes "BGC" ++ replicate 252 0

abbrev pub OneDamagedHeader : Type 0
OneDamagedHeader =
    (marks one_damaged ≡ 2)
    × (faults one_damaged (zones_of (layout 0 256 256)) ≡ 1)
    × (faults one_damaged (zones_of (layout 0 512 0)) ≡ 1)
    × (is_before (key one_damaged (layout 0 256 256)) (key one_damaged (layout 0 512 0)) ≡ true)
    × (is_taken (tally_of one_damaged (layout 0 256 256)) ≡ true)

-- the same two zones of a big-endian machine
abbrev pub big_zone : List ℕ
big_zone = codes "CGBD" ++ replicate 252 0

abbrev pub two_big : List ℕ
two_big = big_zone ++ big_zone

-- the first mark tells the order of bytes, also where the first header is lost. With it both zones fit, and with the
-- other neither
abbrev pub TwoByteOrders : Type 0
TwoByteOrders =
    (byte_order_in two_empty ≡ Little)
    × (byte_order_in two_big ≡ Big)
    × (byte_order_in (replicate 256 0 ++ big_zone) ≡ Big)
    × (byte_order_in (replicate 512 0) ≡ Little)
    × (marks two_big ≡ 2)
    × (map (fits two_big) (zones_of (layout_in Big 0 256 256)) ≡ true ∷ true ∷ [])
    × (map (fits two_big) (zones_of (layout_in Little 0 256 256)) ≡ false ∷ false ∷ [])
    × (faults two_big (zones_of (layout_in Big 0 256 256)) ≡ 0)
    × (is_taken (tally_of two_big (layout_in Big 0 256 256)) ≡ true)

-- console, ftrace and pmsg of 256 bytes, the tag that of Linux 6.12
abbrev pub with_order : Order → Candidate
with_order order = record {
  mem = 768;
  dump = 0;
  console = 256;
  ftrace = 256;
  pmsg = 256;
  parity = 0;
  cpus = 1;
  tag = 0x60c75;
  order = order;
  byte_order = Little;
}

-- as Linux 6.12 lays them out: the header of ftrace comes last
abbrev pub newer : List ℕ
newer = empty_zone ++ empty_zone ++ codes "1NAC" ++ replicate 252 0

-- pmsg before ftrace fits. The other order does not, and is behind it. If nothing fits, nothing tells the two orders
-- apart, and that of Linux 6.1 comes first
abbrev pub TwoOrders : Type 0
TwoOrders =
    (map (fits newer) (zones_of (with_order PmsgFtrace)) ≡ true ∷ true ∷ true ∷ [])
    × (map (fits newer) (zones_of (with_order FtracePmsg)) ≡ true ∷ false ∷ false ∷ [])
    × (faults newer (zones_of (with_order PmsgFtrace)) ≡ 0)
    × (is_before (key newer (with_order PmsgFtrace)) (key newer (with_order FtracePmsg)) ≡ true)
    × (is_before (key (replicate 768 0) (with_order FtracePmsg)) (key (replicate 768 0) (with_order PmsgFtrace)) ≡ true)
