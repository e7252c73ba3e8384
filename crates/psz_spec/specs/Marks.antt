-- The sizes that the bytes of a storage show. Nothing in it names them, but headers stand at multiples of 512. Behind
-- ftrace zones that do not fill their size dumps stand elsewhere, and have no mark
use Rattle.std.specs.Prelude.{ℕ, zero, suc, ◌+◌, ◌-◌, ◌/◌, ◌%◌, ◌==◌, nat_lt, nat_le, Bool, true, false}
use Rattle.std.specs.Prelude.{◌&&◌, if◌then◌else◌, List, [], ◌∷◌, ◌++◌, length, drop, find}
use Rattle.std.specs.Prelude.{Option, Some, None, is_some}
use Rattle.zone_spec.specs.declared.params.ByteOrder.{ByteOrder}
use Rattle.zone_spec.specs.declared.params.ByteOrder.TheVariants.{Little, Big}
use Rattle.psz_spec.specs.declared.Kind.{Kind}
use Rattle.psz_spec.specs.declared.Kind.TheVariants.{Pmsg, Console, Ftrace, Dump}
use Rattle.psz_spec.specs.declared.Mark.{Mark}
use Rattle.psz_spec.specs.declared.Machine.{Machine}
use Rattle.psz_spec.specs.declared.Machine.TheVariants.{Aligned, X86, BigEndian}
use Rattle.psz_spec.specs.declared.Sizes.{Sizes}
use Rattle.psz_spec.specs.declared.Shown.{Shown}
use Rattle.psz_spec.specs.Headers.{word, sig_of, dump_magic, dump_header}
use Rattle.psz_spec.specs.States.{data_of}
use Rattle.psz_spec.specs.Records.{is_of}

-- ---- marks

abbrev pub kind_of : ℕ → Option Kind
kind_of sig =
    if sig == sig_of Dump then Some Dump
    else (if sig == sig_of Console then Some Console
    else (if sig == sig_of Ftrace then Some Ftrace
    else (if sig == sig_of Pmsg then Some Pmsg
    else None)))

-- a dump has its magic number after the zone's header
abbrev pub is_whole : ByteOrder → Kind → List ℕ → Bool
is_whole order Dump bytes = word order bytes 12 == dump_magic
is_whole order Pmsg bytes = true
is_whole order Console bytes = true
is_whole order Ftrace bytes = true

abbrev pub mark_by : ByteOrder → Option Kind → ℕ → ℕ → List ℕ → Option Mark
mark_by order None total at bytes = None
mark_by order (Some kind) total at bytes =
    if nat_le (at + 12 + word order bytes 4) total && is_whole order kind bytes
    then Some (record { kind = kind; at = at; len = word order bytes 4 }) else None

-- the mark at a place of a storage of so many bytes, by the bytes from there on: a signature, a length that fits, and in
-- a dump the magic number, all in this order of bytes
unfoldable pub mark_at : ByteOrder → ℕ → ℕ → List ℕ → Option Mark
mark_at order total at bytes = mark_by order (kind_of (word order bytes 0)) total at bytes

-- the order in which a mark stands at a place
unfoldable pub order_at : ℕ → ℕ → List ℕ → Option ByteOrder
order_at total at bytes =
    if is_some (mark_at Little total at bytes) then Some Little
    else (if is_some (mark_at Big total at bytes) then Some Big else None)

abbrev pub order_or : Option ByteOrder → ByteOrder → ByteOrder
order_or None others = others
order_or (Some order) others = order

-- the order of the first mark at so many places, 512 bytes apart; without one it is little
unfoldable pub order_from : ℕ → ℕ → List ℕ → ByteOrder
order_from zero at image = Little
order_from (suc n) at image =
    order_or (order_at (length image) at (drop at image)) (order_from n (at + 512) image)

-- the order of a storage's bytes: the first mark in it decides
abbrev pub order_in : List ℕ → ByteOrder
order_in image = order_from (length image / 512) 0 image

abbrev pub as_marks : Option Mark → List Mark
as_marks None = []
as_marks (Some mark) = mark ∷ []

-- the marks of an order at so many places, 512 bytes apart
unfoldable pub marks_from : ByteOrder → ℕ → ℕ → List ℕ → List Mark
marks_from order zero at image = []
marks_from order (suc n) at image =
    as_marks (mark_at order (length image) at (drop at image)) ++ marks_from order n (at + 512) image

abbrev pub marks_in : ByteOrder → List ℕ → List Mark
marks_in order image = marks_from order (length image / 512) 0 image

-- ---- distances

-- Euclid's algorithm, of so many steps at most
unfoldable pub gcd_in : ℕ → ℕ → ℕ → ℕ
gcd_in zero a b = a
gcd_in (suc n) a b = if b == 0 then a else gcd_in n b (a % b)

-- the greatest common divisor
unfoldable pub gcd : ℕ → ℕ → ℕ
gcd a b = gcd_in (suc b) a b

-- the greatest common divisor of a number and of the distances between the marks of a kind, from a place on
unfoldable pub step_after : Kind → ℕ → ℕ → List Mark → ℕ
step_after kind step last [] = step
step_after kind step last (m ∷ ms) =
    if is_of kind m.kind then step_after kind (gcd step (m.at - last)) m.at ms else step_after kind step last ms

-- the first mark of a kind
abbrev pub first_of : Kind → List Mark → Option Mark
first_of kind marks = find (λ (m : Mark). is_of kind m.kind) marks

abbrev pub step_by : Kind → Option Mark → List Mark → ℕ
step_by kind None marks = 0
step_by kind (Some first) marks = step_after kind 0 first.at marks

-- the greatest common divisor of the distances between the marks of a kind, the first of them counted from itself; 0
-- where there are fewer than two
unfoldable pub step_of : Kind → List Mark → ℕ
step_of kind marks = step_by kind (first_of kind marks) marks

-- the marks before the first dump: those of rings
unfoldable pub rings_of : List Mark → List Mark
rings_of [] = []
rings_of (m ∷ ms) = if is_of Dump m.kind then [] else m ∷ rings_of ms

-- ---- sizes

abbrev pub place_or : ℕ → Option Mark → ℕ
place_or at None = at
place_or at (Some mark) = mark.at

-- one dump fits 64 KiB, the kernel's default
abbrev pub fits_default : ℕ → Mark → Bool
fits_default total m = nat_le (m.at + 65536) total && nat_le (m.len + 12) 65536

-- of one dump the size is open, and its content is the same by each: 64 KiB if it fits, or all the rest
abbrev pub dump_size : ℕ → Mark → ℕ → ℕ
dump_size total first step =
    if step == 0 then (if fits_default total first then 65536 else total - first.at) else step

-- dumps begin at the first of them. Where no ring is marked, zones before it can be dumps too, that were passed over
abbrev pub dumps_at : ℕ → Mark → List Mark → ℕ
dumps_at size first [] = first.at % size
dumps_at size first (m ∷ ms) = first.at

abbrev pub cpus_by : ℕ → ℕ → ℕ
cpus_by each ftrace = if each == 0 then 1 else ftrace / each

-- what lies before a ring's mark belongs to the kind before it
abbrev pub sizes_by : ℕ → ℕ → ℕ → ℕ → ℕ → ℕ → Sizes
sizes_by total console_at ftrace_at dump_at dump each = record {
  total = total;
  pmsg = console_at;
  console = ftrace_at - console_at;
  ftrace = dump_at - ftrace_at;
  dump = dump;
  cpus = cpus_by each (dump_at - ftrace_at);
}

abbrev pub sizes_with : ℕ → ℕ → ℕ → List Mark → Sizes
sizes_with total dump_at dump rings =
    sizes_by total (place_or (place_or dump_at (first_of Ftrace rings)) (first_of Console rings))
    (place_or dump_at (first_of Ftrace rings)) dump_at dump (step_of Ftrace rings)

abbrev pub shown_with : ℕ → Mark → ℕ → List Mark → Shown
shown_with total first step rings = record {
  sizes = sizes_with total (dumps_at (dump_size total first step) first rings) (dump_size total first step) rings;
  tied = step == 0;
}

abbrev pub shown_by : Option Mark → ℕ → ℕ → List Mark → Option Shown
shown_by None total step rings = None
shown_by (Some first) total step rings = Some (shown_with total first step rings)

-- the sizes that marks show, or None without a dump. They are tied where there is one dump: other sizes of dump zones
-- show the same
unfoldable pub shown_sizes : ℕ → List Mark → Option Shown
shown_sizes total marks = shown_by (first_of Dump marks) total (step_of Dump marks) (rings_of marks)

-- ---- the machine

abbrev pub packed_place : Machine → ℕ
packed_place Aligned = 24
packed_place X86 = 16
packed_place BigEndian = 24

-- whether a dump's header reads as one of a machine: a reason of 1 to 4, a flag of 0 or 1 before three bytes of padding,
-- and nanoseconds below a second
abbrev pub reads_as : Machine → List ℕ → Bool
reads_as machine kept =
    (nat_le 1 (dump_header machine kept).reason && nat_le (dump_header machine kept).reason 4)
    && (nat_le (word Little kept (packed_place machine)) 1 && nat_lt (dump_header machine kept).nanos 1_000_000_000)

abbrev pub machine_if : Bool → Bool → Option Machine
machine_if true false = Some Aligned
machine_if false true = Some X86
machine_if true true = None
machine_if false false = None

-- the little-endian machine that the data of a dump zone shows, or None where both or none fit
unfoldable pub machine_shown : List ℕ → Option Machine
machine_shown kept = machine_if (reads_as Aligned kept) (reads_as X86 kept)

abbrev pub machine_or : Option Machine → Machine → Machine
machine_or (Some machine) others = machine
machine_or None others = others

-- the machine of little-endian marks: the first dump that shows one decides; where none does, it is taken for one of 64
-- bits
unfoldable pub little_machine : List ℕ → List Mark → Machine
little_machine image [] = Aligned
little_machine image (m ∷ ms) =
    if is_of Dump m.kind then machine_or (machine_shown (data_of (drop m.at image))) (little_machine image ms)
    else little_machine image ms

-- the machine of a storage, by its order of bytes and the marks in it
abbrev pub machine_in : ByteOrder → List ℕ → List Mark → Machine
machine_in Little image marks = little_machine image marks
machine_in Big image marks = BigEndian
