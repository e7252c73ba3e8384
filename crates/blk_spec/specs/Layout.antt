-- The layout of the block store: the sizes of its zones, or the first fault (a project's own)
use Rattle.std.specs.Prelude.{◌≡◌, ℕ, ◌+◌, ◌-◌, ◌*◌, ◌/◌, ◌%◌, ◌^◌, ◌≤◌, Bool, ◌&&◌, ◌||◌, not, if◌then◌else◌, nat_lt}
use Rattle.std.specs.Prelude.{bit_xor, ◌==◌, List, [], ◌∷◌, Option, Some, None, Result, Ok, Err}
use Rattle.std.specs.List.{list_all}
use Rattle.zone_spec.specs.declared.params.LayoutFault.{LayoutFault}
use Rattle.zone_spec.specs.declared.params.LayoutFault.TheVariants.{NoMemory, NoZone, TooLarge, NoRoom, NotPage}
use Rattle.zone_spec.specs.Numbers.{plain_sig, most_memory}
use Rattle.zone_spec.specs.Layout.{first_fault}
use Rattle.blk_spec.specs.declared.BlkParams.{BlkParams}
use Rattle.blk_spec.specs.declared.BlkLayout.{BlkLayout}
use Rattle.blk_spec.specs.declared.BlkRing.{BlkRing}
use Rattle.blk_spec.specs.declared.BlkRing.TheVariants.{Console, Pmsg}
use Rattle.blk_spec.specs.declared.BlkZone.{BlkZone}

-- what the rings leave to the dump zones
abbrev pub dump_memory : BlkParams → ℕ
dump_memory p = p.total - (p.pmsg + p.console)

abbrev pub dump_count : BlkParams → ℕ
dump_count p = if p.kmsg == 0 then 0 else dump_memory p / p.kmsg

-- the faults, in the order in which they are told
abbrev pub faults : BlkParams → List (Bool × LayoutFault)
faults p =
    (p.total == 0, NoMemory)
    ∷ (nat_lt most_memory p.total, TooLarge)
    ∷ (not (list_all (λ size. size % 4096 == 0) (p.total ∷ p.kmsg ∷ p.console ∷ p.pmsg ∷ [])), NotPage)
    ∷ (list_all (λ size. size == 0) (p.kmsg ∷ p.console ∷ p.pmsg ∷ []), NoZone)
    ∷ (nat_lt p.total (p.pmsg + p.console) || (nat_lt 0 (dump_memory p) && nat_lt (dump_memory p) p.kmsg), NoRoom)
    ∷ []

-- a layout has sizes of 32 bits; a dump size beyond them has no zone, and is 0
abbrev pub kmsg_size : BlkParams → ℕ
kmsg_size p = if nat_lt p.kmsg (2 ^ 32) then p.kmsg else 0

abbrev pub zones_of : BlkParams → BlkLayout
zones_of p = record { total = p.total; kmsg = kmsg_size p; console = p.console; pmsg = p.pmsg; dumps = dump_count p }

abbrev pub ok_unless : Option LayoutFault → BlkLayout → Result BlkLayout LayoutFault
ok_unless None layout = Ok layout
ok_unless (Some fault) layout = Err fault

unfoldable pub layout_of : BlkParams → Result BlkLayout LayoutFault
layout_of p = ok_unless (first_fault (faults p)) (zones_of p)

-- the layouts that a store can have
pub record IsLayout (l : BlkLayout) : Type 0 where
  pub small : l.total ≤ most_memory
  pub kmsg : l.kmsg % 4096 ≡ 0
  pub console : l.console % 4096 ≡ 0
  pub pmsg : l.pmsg % 4096 ≡ 0
  pub dumps : l.kmsg ≡ 0 → l.dumps ≡ 0
  pub room : l.pmsg + l.console + l.dumps * l.kmsg ≤ l.total

-- the zones: pmsg, console, dumps
abbrev pub ring_zone : BlkLayout → BlkRing → BlkZone
ring_zone l Pmsg = record { at = 0; size = l.pmsg; sig = bit_xor plain_sig 7 }
ring_zone l Console = record { at = l.pmsg; size = l.console; sig = bit_xor plain_sig 2 }

abbrev pub dump_zone : BlkLayout → ℕ → BlkZone
dump_zone l index = record { at = l.pmsg + l.console + index * l.kmsg; size = l.kmsg; sig = plain_sig }

-- how many bytes a zone's header has: signature, data length and start
abbrev pub header_len : ℕ
header_len = 12

-- a zone's data bytes: all behind its header
abbrev pub capacity : BlkZone → ℕ
capacity z = z.size - header_len
