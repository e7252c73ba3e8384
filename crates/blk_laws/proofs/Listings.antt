-- Listed records and the zones of a layout
use Rattle.std.proofs.Common.{◌≡◌, ℕ, zero, suc, ◌+◌, ◌*◌, ◌%◌, ◌<◌, ◌≤◌, ◌==◌, inl, inr, Bool, true, false, not, ◌&&◌}
use Rattle.std.proofs.Common.{if◌then◌else◌, bit_xor, List, [], ◌∷◌, ◌++◌, length, map, filter, flat_map}
use Rattle.std.proofs.Common.{option_to_list, Option, Some, None, is_some, refl, sym, ap, ◌∙◌, arith, length-take, drop}
use Rattle.std.proofs.Common.{◌||◌}
use Rattle.std.specs.List.{list_any, range_with_len}
use Rattle.std.proofs.lemmas.Bool.{and_parts, eqb-true, cases_lt}
use Rattle.std.proofs.lemmas.Bool.Decides.{nat_tests}
use Rattle.std.proofs.lemmas.List.{nil_from_length}
use Rattle.std.proofs.lemmas.List.Folds.{list_any-append}
use Rattle.std.proofs.Math.Nat.{mod-eq_of_lt, mul-le-mul_right, add-mul}
use Rattle.std.proofs.Math.Bool.{or-false}
use Rattle.blk_spec.specs.declared.BlkLayout.{BlkLayout}
use Rattle.blk_spec.specs.declared.BlkRing.{BlkRing}
use Rattle.blk_spec.specs.declared.BlkRing.TheVariants.{Console as ConsoleRing, Pmsg as PmsgRing}
use Rattle.blk_spec.specs.declared.BlkZone.{BlkZone}
use Rattle.blk_spec.specs.declared.BlkName.{BlkName}
use Rattle.blk_spec.specs.declared.BlkName.TheVariants.{Dump, Console, Pmsg}
use Rattle.blk_spec.specs.Layout.{IsLayout, ring_zone, dump_zone}
use Rattle.blk_spec.specs.Reading.{BlkDump, zone_bytes, saved_ring, ring_saved, header_words, is_valid, is_dump}
use Rattle.blk_spec.specs.Reading.{dump_seen, listed_dump, dump_listed, dumps_listed}
use Rattle.blk_spec.specs.Names.{is_name, dump_name}
use Rattle.blk_spec.specs.States.{BlkState, name_if, names_of, is_listed}
use Rattle.blk_laws.specs.Standing.{LiesIn}

-- ---- zones of a layout

page : (n : ℕ) → n % 4096 ≡ 0 → 0 < n → 4096 ≤ n
page n h k = elim (cases_lt n 4096) [
  | inl a ↦ (let e : n % 4096 ≡ n = mod-eq_of_lt a in absurd (omega arith))
  | inr b ↦ b
]

pmsg-sig : bit_xor 0x43474244 7 ≡ 0x43474243
pmsg-sig = refl

console-sig : bit_xor 0x43474244 2 ≡ 0x43474246
console-sig = refl

pub ring-inside : (l : BlkLayout) (ring : BlkRing) → IsLayout l
    → (ring_zone l ring).at + (ring_zone l ring).size ≤ l.total
ring-inside l ConsoleRing valid = omega (arith, valid.room)
ring-inside l PmsgRing valid = omega (arith, valid.room)

pub ring-lies : (l : BlkLayout) (ring : BlkRing) (store : List ℕ) → IsLayout l → l.total ≤ length store
    → 0 < (ring_zone l ring).size → LiesIn (ring_zone l ring) store
ring-lies l ConsoleRing store valid h k = record {
  inside = omega (arith, valid.room);
  sized = omega (arith, page l.console valid.console k);
  small = omega (arith, valid.room, valid.small);
  word = omega (arith, console-sig);
}
ring-lies l PmsgRing store valid h k = record {
  inside = omega (arith, valid.room);
  sized = omega (arith, page l.pmsg valid.pmsg k);
  small = omega (arith, valid.room, valid.small);
  word = omega (arith, pmsg-sig);
}

pub ring-signed : (l : BlkLayout) (ring : BlkRing) → 0 < (ring_zone l ring).sig
ring-signed l ConsoleRing = omega (arith, console-sig)
ring-signed l PmsgRing = omega (arith, pmsg-sig)

pub dump-size : (l : BlkLayout) → IsLayout l → 0 < l.dumps → 52 ≤ l.kmsg
dump-size l valid h = elim (cases_lt 0 l.kmsg) [
  | inl a ↦ omega (arith, page l.kmsg valid.kmsg a)
  | inr b ↦ (let none : l.dumps ≡ 0 = valid.dumps (omega arith) in absurd (omega arith))
]

pub dump-room : (l : BlkLayout) (index : ℕ) → IsLayout l → index < l.dumps
    → (dump_zone l index).at + (dump_zone l index).size ≤ l.total
dump-room l index valid h =
    let more : (index + 1) * l.kmsg ≤ l.dumps * l.kmsg = mul-le-mul_right l.kmsg (omega arith) in
    let next : (index + 1) * l.kmsg ≡ index * l.kmsg + l.kmsg = add-mul index 1 l.kmsg ∙ omega arith in
    omega (arith, valid.room)

-- a ring without a zone has no log
pub no-zone : (z : BlkZone) (bytes : List ℕ) → 0 < z.sig → length bytes ≡ 0 → saved_ring z bytes ≡ None
unfolding saved_ring
no-zone z bytes some none =
    let nil : bytes ≡ [] = nil_from_length bytes none in
    let unsigned : (0 == z.sig) ≡ false = grind (arith, nat_tests) in
    rw (nil, unsigned) refl

pub no-ring : (l : BlkLayout) (ring : BlkRing) (store : List ℕ) → (ring_zone l ring).size ≡ 0
    → ring_saved l ring store ≡ None
no-ring l ring store h =
    no-zone (ring_zone l ring) (zone_bytes store (ring_zone l ring)) (ring-signed l ring)
    (omega (arith, length-take (ring_zone l ring).size (drop (ring_zone l ring).at store)))

-- ---- listed records

unfoldable pub AllBelow : ℕ → List BlkDump → Type 0
AllBelow n [] = Unit
AllBelow n (d ∷ dumps) = (d.index < n) × AllBelow n dumps

pub no-dump-named : (name : BlkName) (dumps : List BlkDump) → ((d : BlkDump) → is_name name (dump_name d) ≡ false)
    → list_any (is_name name) (map dump_name dumps) ≡ false
no-dump-named name [] h = refl
no-dump-named name (d ∷ dumps) h = rw (h d) (no-dump-named name dumps h)

any-if : (name other : BlkName) (saved : Option (List ℕ))
    → list_any (is_name name) (name_if other saved) ≡ (is_name name other && is_some saved)
any-if name other None = and-none (is_name name other)
  where
    and-none : (b : Bool) → false ≡ (b && false)
    and-none true = refl
    and-none false = refl
any-if name other (Some log) = or-and (is_name name other)
  where
    or-and : (b : Bool) → (b || false) ≡ (b && true)
    or-and true = refl
    or-and false = refl

pub listed-parts : (name : BlkName) (b : BlkState)
    → is_listed b name ≡ (list_any (is_name name) (map dump_name b.dumps)
    || (is_name name Console && is_some b.console.saved) || (is_name name Pmsg && is_some b.pmsg.saved))
unfolding names_of
listed-parts name b =
    list_any-append (is_name name) (map dump_name b.dumps ++ name_if Console b.console.saved)
    (name_if Pmsg b.pmsg.saved)
    ∙ ap (λ x. x || list_any (is_name name) (name_if Pmsg b.pmsg.saved))
    (list_any-append (is_name name) (map dump_name b.dumps) (name_if Console b.console.saved))
    ∙ ap (λ x. list_any (is_name name) (map dump_name b.dumps) || x
    || list_any (is_name name) (name_if Pmsg b.pmsg.saved)) (any-if name Console b.console.saved)
    ∙ ap (λ x. list_any (is_name name) (map dump_name b.dumps) || (is_name name Console && is_some b.console.saved)
    || x) (any-if name Pmsg b.pmsg.saved)

pub listed-console : (b : BlkState) → is_listed b Console ≡ is_some b.console.saved
listed-console b = listed-parts Console b ∙ ap (λ x. x || is_some b.console.saved || false)
    (no-dump-named Console b.dumps (λ d. refl)) ∙ or-false (is_some b.console.saved)

pub listed-pmsg : (b : BlkState) → is_listed b Pmsg ≡ is_some b.pmsg.saved
listed-pmsg b = listed-parts Pmsg b ∙ ap (λ x. x || false || is_some b.pmsg.saved)
    (no-dump-named Pmsg b.dumps (λ d. refl))

pub some-not-none : {X : Type 0} (o : Option X) → is_some o ≡ true → o ≡ None → ⊥
some-not-none None h e = cc
some-not-none (Some x) h e = cc

pub console-saved : (b : BlkState) → is_listed b Console ≡ true → b.console.saved ≡ None → ⊥
console-saved b h e = some-not-none b.console.saved (sym (listed-console b) ∙ h) e

pub pmsg-saved : (b : BlkState) → is_listed b Pmsg ≡ true → b.pmsg.saved ≡ None → ⊥
pmsg-saved b h e = some-not-none b.pmsg.saved (sym (listed-pmsg b) ∙ h) e

index-below : (n index : ℕ) (packed : Bool) (dumps : List BlkDump) → AllBelow n dumps
    → list_any (is_name (Dump index packed)) (map dump_name dumps) ≡ true → index < n
unfolding AllBelow
index-below n index packed [] a h = cc
index-below n index packed (d ∷ dumps) a h = by-test (is_name (Dump index packed) (dump_name d)) refl h
    (index-below n index packed dumps a.1)
  where
    by-test : (b : Bool) → is_name (Dump index packed) (dump_name d) ≡ b
        → (b || list_any (is_name (Dump index packed)) (map dump_name dumps)) ≡ true
        → (list_any (is_name (Dump index packed)) (map dump_name dumps) ≡ true → index < n) → index < n
    by-test true e k next =
        let same : index ≡ d.index = eqb-true index d.index
        (and_parts (index == d.index) (if packed then d.packed else not d.packed) e).0 in
        omega (arith, a.0)
    by-test false e k next = next k

pub listed-below : (b : BlkState) (n index : ℕ) (packed : Bool) → AllBelow n b.dumps
    → is_listed b (Dump index packed) ≡ true → index < n
listed-below b n index packed a h =
    let any = list_any (is_name (Dump index packed)) (map dump_name b.dumps) in
    index-below n index packed b.dumps a (sym (or-false any) ∙ sym (or-false (any || false))
    ∙ sym (listed-parts (Dump index packed) b) ∙ h)

pub below-filter : (n : ℕ) (p : BlkDump → Bool) (dumps : List BlkDump) → AllBelow n dumps → AllBelow n (filter p dumps)
unfolding AllBelow
below-filter n p [] a = tt
below-filter n p (d ∷ dumps) a = by-test (p d) (below-filter n p dumps a.1)
  where
    by-test : (b : Bool) → AllBelow n (filter p dumps) → AllBelow n (if b then d ∷ filter p dumps else filter p dumps)
    by-test true rest = (a.0, rest)
    by-test false rest = rest

below-option : (n index : ℕ) (b : Bool) (d : BlkDump) (more : List BlkDump) → d.index ≡ index → index < n
    → AllBelow n more → AllBelow n (option_to_list (if b then Some d else None) ++ more)
unfolding AllBelow
below-option n index true d more e h a = (omega arith, a)
below-option n index false d more e h a = a

below-listed : (n : ℕ) (l : BlkLayout) (store : List ℕ) (from count : ℕ) → from + count ≤ n
    → AllBelow n (flat_map (λ index. option_to_list (dump_listed l store index)) (range_with_len from count))
unfolding AllBelow listed_dump
below-listed n l store from zero h = tt
below-listed n l store from (suc count) h =
    let bytes = zone_bytes store (dump_zone l from) in
    below-option n from (is_valid (dump_zone l from) (header_words bytes) && is_dump (header_words bytes)
    (drop 12 bytes)) (dump_seen from (header_words bytes) (drop 12 bytes))
    (flat_map (λ index. option_to_list (dump_listed l store index)) (range_with_len (from + 1) count)) refl
    (omega arith) (below-listed n l store (from + 1) count (omega arith))

pub dumps-below : (l : BlkLayout) (store : List ℕ) → AllBelow l.dumps (dumps_listed l store)
unfolding dumps_listed
dumps-below l store = below-listed l.dumps l store 0 l.dumps (omega arith)
