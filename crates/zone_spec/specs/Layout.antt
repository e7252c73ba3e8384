-- The layout of a parameter list: its zones, or its first fault
use Rattle.std.specs.Prelude.{ℕ, zero, suc, ◌+◌, ◌-◌, ◌*◌, ◌/◌, ◌^◌, Bool, ◌&&◌, ◌||◌, not, if◌then◌else◌, nat_lt}
use Rattle.std.specs.Prelude.{nat_le, bit_xor, ◌==◌, List, [], ◌∷◌, ◌++◌, map, Option, Some, None, Result, Ok, Err}
use Rattle.std.specs.List.{list_any, list_all, range_with_len}
use Rattle.zone_spec.specs.declared.Kind.{Kind}
use Rattle.zone_spec.specs.declared.Kind.TheVariants.{Dump, Console, Ftrace, Pmsg}
use Rattle.zone_spec.specs.declared.Zone.{Zone}
use Rattle.zone_spec.specs.declared.params.Order.{Order}
use Rattle.zone_spec.specs.declared.params.Order.TheVariants.{FtracePmsg, PmsgFtrace}
use Rattle.zone_spec.specs.declared.params.Params.{Params}
use Rattle.zone_spec.specs.declared.params.Row.{Row}
use Rattle.zone_spec.specs.declared.params.LayoutFault.{LayoutFault}
use Rattle.zone_spec.specs.declared.params.LayoutFault.TheVariants.{NoMemory, NoZone, TooLarge, EccTooLarge, NoRoom}
use Rattle.zone_spec.specs.declared.params.LayoutFault.TheVariants.{ZoneTooSmall, EccInvalid, CpusBad, BlockBad}
use Rattle.zone_spec.specs.Numbers.{header_len, plain_sig, most_memory}
use Rattle.zone_spec.specs.Zones.{blocks_in}

-- the greatest of 1, 2, 4 .. 2 ^ k that is at most n; 0 for 0
unfoldable pub power_within : ℕ → ℕ → ℕ
power_within zero n = if n == 0 then 0 else 1
power_within (suc k) n = if nat_le (2 ^ suc k) n then 2 ^ suc k else power_within k n

-- a size rounded down to a power of two; 0 stays 0
unfoldable pub rounded : ℕ → ℕ
rounded size = power_within 63 size

abbrev pub even : ℕ → ℕ
even n = 2 * (n / 2)

-- the memory that the other zones leave to the dump zones
abbrev pub dump_memory : Params → ℕ
dump_memory p = p.mem - rounded p.console - rounded p.ftrace - rounded p.pmsg

abbrev pub dump_count : Params → ℕ
dump_count p = if rounded p.dump == 0 then 0 else dump_memory p / rounded p.dump

abbrev pub dump_row : Params → Row
dump_row p = record { kind = Dump; count = dump_count p; size = even (dump_memory p / dump_count p) }

-- a zone of this size, or none of size 0
abbrev pub one_row : Kind → ℕ → Row
one_row kind size = record { kind = kind; count = if size == 0 then 0 else 1; size = size }

abbrev pub ftrace_row : Params → Row
ftrace_row p = record {
  kind = Ftrace;
  count = if rounded p.ftrace == 0 then 0 else p.cpus;
  size = even (rounded p.ftrace / p.cpus);
}

-- these two, in this order
abbrev pub ordered : Order → Row → Row → List Row
ordered FtracePmsg ftrace pmsg = ftrace ∷ pmsg ∷ []
ordered PmsgFtrace ftrace pmsg = pmsg ∷ ftrace ∷ []

-- the zones of each kind
abbrev pub rows : Params → List Row
rows p =
    dump_row p
    ∷ one_row Console (rounded p.console)
    ∷ ordered p.order (ftrace_row p) (one_row Pmsg (rounded p.pmsg))

-- the parity bytes of a kind
abbrev pub ecc_of : Params → Kind → ℕ
ecc_of p Dump = p.ecc_dump
ecc_of p Console = p.ecc_console
ecc_of p Ftrace = p.ecc_ftrace
ecc_of p Pmsg = p.ecc_pmsg

abbrev pub tag_of : Params → Kind → ℕ
tag_of p Ftrace = p.ftrace_sig
tag_of p other = 0

-- a zone of this size from this place on, with the parity of its kind
abbrev pub zone_at : Params → Kind → ℕ → ℕ → ℕ → Zone
zone_at p kind size index at =
    let r = ecc_of p kind in
    let blocks = blocks_in size r p.block in
    record {
      name = record { kind = kind; index = index };
      at = at;
      size = size;
      cap = size - header_len - (blocks + 1) * r;
      blocks = blocks;
      parity = r;
      sig = bit_xor plain_sig (tag_of p kind);
      block = p.block;
      byte_order = p.byte_order;
    }

-- the zones of these rows, each directly behind the one before it
unfoldable pub zones_from : Params → ℕ → List Row → List Zone
zones_from p at [] = []
zones_from p at (row ∷ rows) =
    map (λ i. zone_at p row.kind row.size i (at + i * row.size)) (range_with_len 0 row.count)
    ++ zones_from p (at + row.count * row.size) rows

abbrev pub zones_of : Params → List Zone
zones_of p = zones_from p 0 (rows p)

-- whether the zones do not fit the memory: the other zones, or one dump zone in what they leave
abbrev pub lacks_room : Params → Bool
lacks_room p =
    nat_lt p.mem (rounded p.console + rounded p.ftrace + rounded p.pmsg)
    || (nat_lt 0 (dump_memory p) && nat_lt (dump_memory p) (rounded p.dump))

-- the faults of the parameters, in the order in which they are told
abbrev pub parameter_faults : Params → List (Bool × LayoutFault)
parameter_faults p =
    (p.mem == 0, NoMemory)
    ∷ (list_all (λ size. rounded size == 0) (p.dump ∷ p.console ∷ p.ftrace ∷ p.pmsg ∷ []), NoZone)
    ∷ (nat_lt most_memory p.mem, TooLarge)
    ∷ (list_any (nat_lt 127) (p.ecc ∷ p.ecc_dump ∷ p.ecc_console ∷ p.ecc_ftrace ∷ p.ecc_pmsg ∷ []), EccTooLarge)
    ∷ (not (list_any (λ k. p.block == k) (32 ∷ 64 ∷ 128 ∷ [])), BlockBad)
    ∷ ((p.cpus == 0) || nat_lt 64 p.cpus, CpusBad)
    ∷ (lacks_room p, NoRoom)
    ∷ []

-- and those of the zones, which are told behind them
abbrev pub zone_faults : List Zone → List (Bool × LayoutFault)
zone_faults zones =
    (list_any (λ (z : Zone). nat_lt z.size 256) zones, ZoneTooSmall)
    ∷ (
      list_any (λ (z : Zone). nat_le (z.size - header_len) ((z.blocks + 1) * z.parity) || nat_lt z.cap 64) zones,
      EccInvalid,
    )
    ∷ []

-- the first that holds
abbrev pub first_fault : List (Bool × LayoutFault) → Option LayoutFault
first_fault [] = None
first_fault (row ∷ rows) = if row.0 then Some row.1 else first_fault rows

abbrev pub ok_unless : Option LayoutFault → List Zone → Result (List Zone) LayoutFault
ok_unless None zones = Ok zones
ok_unless (Some fault) zones = Err fault

unfoldable pub layout_of : Params → Result (List Zone) LayoutFault
layout_of p = ok_unless (first_fault (parameter_faults p ++ zone_faults (zones_of p))) (zones_of p)
