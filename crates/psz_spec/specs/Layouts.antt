-- Where the zones of a storage lie: pmsg, console, ftrace, and dumps in all the rest (fs/pstore/zone.c, psz_alloc_zones)
use Rattle.std.specs.Prelude.{ℕ, zero, suc, ◌+◌, ◌-◌, ◌*◌, ◌/◌, ◌%◌, ◌==◌, nat_lt, Bool, not, ◌&&◌, ◌||◌, if◌then◌else◌}
use Rattle.std.specs.Prelude.{List, [], ◌∷◌, ◌++◌, Option, Some, None}
use Rattle.psz_spec.specs.declared.Kind.{Kind}
use Rattle.psz_spec.specs.declared.Kind.TheVariants.{Pmsg, Console, Ftrace, Dump}
use Rattle.psz_spec.specs.declared.Sizes.{Sizes}
use Rattle.psz_spec.specs.declared.Zone.{Zone}
use Rattle.psz_spec.specs.declared.SizeFault.{SizeFault}
use Rattle.psz_spec.specs.declared.SizeFault.TheVariants.{TotalSmall, NoSize, TotalUneven, SizeUneven, NoRoom}
use Rattle.psz_spec.specs.declared.SizeFault.TheVariants.{FtraceSmall, NoDumpZone}

-- so many zones of a kind and size, the first of them with this index and at this place
unfoldable pub zones_from : Kind → ℕ → ℕ → ℕ → ℕ → List Zone
zones_from kind size zero index at = []
zones_from kind size (suc n) index at =
    record { kind = kind; index = index; at = at; size = size } ∷ zones_from kind size n (index + 1) (at + size)

-- one zone, or none where its size is 0
abbrev pub zone_or_none : Kind → ℕ → ℕ → List Zone
zone_or_none kind size at = if size == 0 then [] else zones_from kind size 1 0 at

-- the kernel uses 128 MiB at most
abbrev pub used : Sizes → ℕ
used s = if nat_lt 134_217_728 s.total then 134_217_728 else s.total

-- an ftrace zone has its part of a processor, without what does not divide
abbrev pub ftrace_each : Sizes → ℕ
ftrace_each s = if s.cpus == 0 then 0 else s.ftrace / s.cpus

-- as many as fit. That can be more than processors, and where the size does not divide, they end before it does: so
-- dumps may begin at an odd place
abbrev pub ftrace_count : Sizes → ℕ
ftrace_count s = if ftrace_each s == 0 then 0 else s.ftrace / ftrace_each s

abbrev pub ftrace_at : Sizes → ℕ
ftrace_at s = s.pmsg + s.console

abbrev pub dump_at : Sizes → ℕ
dump_at s = ftrace_at s + ftrace_count s * ftrace_each s

abbrev pub dump_count : Sizes → ℕ
dump_count s = if s.dump == 0 then 0 else (used s - (s.pmsg + s.console + s.ftrace)) / s.dump

unfoldable pub zones_of : Sizes → List Zone
zones_of s =
    zone_or_none Pmsg s.pmsg 0 ++ zone_or_none Console s.console s.pmsg
    ++ zones_from Ftrace (ftrace_each s) (ftrace_count s) 0 (ftrace_at s)
    ++ zones_from Dump s.dump (dump_count s) 0 (dump_at s)

-- ---- which sizes a kernel takes (register_pstore_zone)

abbrev pub is_uneven : ℕ → Bool
is_uneven size = not (size % 512 == 0)

abbrev pub has_no_size : Sizes → Bool
has_no_size s = (s.dump == 0) && (s.pmsg == 0) && (s.console == 0) && (s.ftrace == 0)

abbrev pub is_uneven_one : Sizes → Bool
is_uneven_one s = is_uneven s.dump || is_uneven s.pmsg || is_uneven s.console || is_uneven s.ftrace

abbrev pub is_ftrace_small : Sizes → Bool
is_ftrace_small s = nat_lt 0 s.ftrace && nat_lt (ftrace_each s) 12

abbrev pub has_no_dump_zone : Sizes → Bool
has_no_dump_zone s = nat_lt 0 s.dump && (dump_count s == 0)

-- the first fault of sizes, or None where a kernel divides a storage by them
unfoldable pub size_fault : Sizes → Option SizeFault
size_fault s =
    if nat_lt s.total 4096 then Some TotalSmall
    else (if has_no_size s then Some NoSize
    else (if not (used s % 4096 == 0) then Some TotalUneven
    else (if is_uneven_one s then Some SizeUneven
    else (if nat_lt (used s) (s.pmsg + s.console + s.ftrace) then Some NoRoom
    else (if is_ftrace_small s then Some FtraceSmall
    else (if has_no_dump_zone s then Some NoDumpZone
    else None))))))
