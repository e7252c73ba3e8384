-- The layouts that are looked through
use Rattle.std.specs.Prelude.{ℕ, ◌-◌, Bool, true, false, ◌&&◌, ◌||◌, if◌then◌else◌, nat_lt, nat_le, ◌==◌, List, [], ◌∷◌}
use Rattle.std.specs.Prelude.{map, filter, length, bit_xor, is_some, Option, None, Some, option_map, unwrap_or}
use Rattle.std.specs.List.{list_any, range_with_len}
use Rattle.zone_spec.specs.declared.Kind.{Kind}
use Rattle.zone_spec.specs.declared.Kind.TheVariants.{Ftrace}
use Rattle.zone_spec.specs.declared.Zone.{Zone}
use Rattle.zone_spec.specs.declared.params.ByteOrder.{ByteOrder}
use Rattle.zone_spec.specs.declared.params.Order.{Order}
use Rattle.zone_spec.specs.declared.params.Order.TheVariants.{FtracePmsg, PmsgFtrace}
use Rattle.zone_spec.specs.Numbers.{plain_sig}
use Rattle.zone_spec.specs.Orders.{is_same_order}
use Rattle.layout_spec.specs.declared.Candidate.{Candidate}
use Rattle.layout_spec.specs.declared.Known.{Known}
use Rattle.layout_spec.specs.Laid.{zones_of, has_layout, memory_for_dumps}
use Rattle.layout_spec.specs.Marks.{is_readable, zone_words, byte_order_in}

-- what is known is kept
abbrev pub known_or : Option ℕ → List ℕ → List ℕ
known_or None all = all
known_or (Some n) all = n ∷ []

abbrev pub is_one_of : ℕ → List ℕ → Bool
is_one_of n ns = list_any (λ m. n == m) ns

-- the powers of two from 256 bytes to 16 MiB
unfoldable pub powers : List ℕ
powers =
    256 ∷ 512 ∷ 1024 ∷ 2048 ∷ 4096 ∷ 8192 ∷ 16384 ∷ 32768 ∷ 65536 ∷ 131072 ∷ 262144 ∷ 524288 ∷ 1048576 ∷ 2097152
    ∷ 4194304 ∷ 8388608 ∷ 16777216 ∷ []

-- a size: none, or a power of two in a file of this length
abbrev pub sizes : ℕ → List ℕ
sizes len = 0 ∷ filter (λ n. nat_le n len) powers

-- the memory: the whole file, or a power of two below it
abbrev pub memories : ℕ → List ℕ
memories len = len ∷ filter (λ n. nat_le n (len - 1)) powers

unfoldable pub parities : List ℕ
parities = 0 ∷ range_with_len 2 126

unfoldable pub processors : List ℕ
processors = range_with_len 1 64

-- where there are no ftrace zones, one processor and tag 0 stand for all
abbrev pub cpus_for : Known → ℕ → List ℕ
cpus_for known ftrace = if ftrace == 0 then 1 ∷ [] else known_or known.cpus processors

-- the orders are counted from the kernel's first
abbrev pub order_number : Order → ℕ
order_number FtracePmsg = 0
order_number PmsgFtrace = 1

-- the orders, by their numbers. Where there are no ftrace zones or no pmsg, the first stands for both
abbrev pub orders_for : Known → Candidate → List ℕ
orders_for known c =
    known_or (option_map order_number known.order) (if (c.ftrace == 0) || (c.pmsg == 0) then 0 ∷ [] else 0 ∷ 1 ∷ [])

-- the tag of an ftrace zone's header, which is the exclusive-or of signature and tag
abbrev pub tag_read : List ℕ → Zone → ℕ
tag_read image z = bit_xor plain_sig (zone_words image z).sig

-- a kernel's tag (version 2 on)
abbrev pub is_tag : ℕ → Bool
is_tag n = nat_le 0x20000 n && nat_le n 0xffffff

abbrev pub is_ftrace : Kind → Bool
is_ftrace Ftrace = true
is_ftrace other = false

-- an ftrace zone whose header reads with a tag
unfoldable pub is_tagged : List ℕ → Zone → Bool
is_tagged image z = is_ftrace z.name.kind && is_readable image z && is_tag (tag_read image z)

-- the tags: that of version 2, and those that headers read
abbrev pub tags_for : Known → List ℕ → Candidate → List ℕ
tags_for known image c =
    if c.ftrace == 0 then 0 ∷ []
    else known_or known.tag
    (0x20000 ∷ map (tag_read image) (filter (is_tagged image) (zones_of (record c { tag = 0 }))))

-- the order of bytes: the one that is known, or else the one that the image shows
abbrev pub byte_order_for : Known → List ℕ → ByteOrder
byte_order_for known image = unwrap_or known.byte_order (byte_order_in image)

-- nothing is said twice: without dump zones the memory makes no difference, and dump zones need memory
abbrev pub is_told_once : Known → ℕ → Candidate → Bool
is_told_once known len c =
    if c.dump == 0 then (c.mem == len) || is_some known.mem else nat_lt 0 (memory_for_dumps c)

-- the sizes and the memory are of the family
abbrev pub is_shape : Known → ℕ → Candidate → Bool
is_shape known len c =
    is_one_of c.mem (known_or known.mem (memories len)) && is_one_of c.dump (known_or known.dump (sizes len))
    && is_one_of c.console (known_or known.console (sizes len))
    && is_one_of c.ftrace (known_or known.ftrace (sizes len)) && is_one_of c.pmsg (known_or known.pmsg (sizes len))

-- all but the tag, the order of bytes and the layout
unfoldable pub is_chosen : Known → ℕ → Candidate → Bool
is_chosen known len c =
    is_shape known len c && is_told_once known len c && nat_le c.mem len
    && is_one_of (order_number c.order) (orders_for known c) && is_one_of c.cpus (cpus_for known c.ftrace)
    && is_one_of c.parity (known_or known.parity parities)

-- a layout of the family: it agrees with what is known, and lies within the file
unfoldable pub is_of_family : Known → List ℕ → Candidate → Bool
is_of_family known image c =
    is_chosen known (length image) c && is_one_of c.tag (tags_for known image c)
    && is_same_order c.byte_order (byte_order_for known image) && has_layout c
