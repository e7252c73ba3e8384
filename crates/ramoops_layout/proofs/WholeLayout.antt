-- The zones of a layout are valid, lie in order, and end within the memory
use Rattle.std.proofs.Common.{◌≡◌, ℕ, zero, suc, ◌+◌, ◌-◌, ◌*◌, ◌^◌, ◌<◌, ◌≤◌, Bool, true, false, ◌&&◌, ◌||◌, nat_lt}
use Rattle.std.proofs.Common.{nat_le, bit_xor, List, [], ◌∷◌, ◌++◌, map, length, take, Option, Some, None, Ok, refl}
use Rattle.std.proofs.Common.{sym, ap, ◌∙◌, arith, slice_get}
use Rattle.std.specs.Option.{option_or}
use Rattle.std.specs.List.{AllByRecursion, list_any, range_with_len}
use Rattle.std.proofs.lemmas.Bool.{ltb-false, leb-false}
use Rattle.std.proofs.lemmas.Nat.{xor_of_32}
use Rattle.std.proofs.lemmas.Option.{slice_get_within}
use Rattle.std.proofs.lemmas.List.{length-append}
use Rattle.std.proofs.lemmas.List.FromFn.{length-map-range_with_len}
use Rattle.std.proofs.lemmas.List.Sums.{sum_by-append, sum_by-cons}
use Rattle.zone_spec.specs.declared.Kind.{Kind}
use Rattle.zone_spec.specs.declared.Kind.TheVariants.{Dump, Console, Ftrace, Pmsg}
use Rattle.zone_spec.specs.declared.Zone.{Zone}
use Rattle.zone_spec.specs.declared.params.Order.{Order}
use Rattle.zone_spec.specs.declared.params.Order.TheVariants.{FtracePmsg, PmsgFtrace}
use Rattle.zone_spec.specs.declared.params.Params.{Params}
use Rattle.zone_spec.specs.declared.params.Row.{Row}
use Rattle.zone_spec.specs.declared.params.LayoutFault.{LayoutFault}
use Rattle.zone_spec.specs.Zones.{IsValidZone}
use Rattle.zone_spec.specs.Layouts.{zones_end, IsLayout}
use Rattle.zone_spec.specs.Layout.{rows, zone_at, zones_from, parameter_faults, zone_faults, first_fault, ok_unless}
use Rattle.zone_spec.specs.Layout.{layout_of, ecc_of, tag_of, rounded, dump_row, one_row, ftrace_row}
use Rattle.zone_spec.specs.Layout.{ordered}
use Rattle.ramoops_layout.specs.Rows.{taken, all_taken}
use Rattle.ramoops_layout.proofs.Faultless.{IsFaultless, faultless, rows_total, mem_small, rows_within, parity_within}
use Rattle.ramoops_layout.proofs.Faultless.{block_at_most, each_clear, or_clear, small_rows, any_in_rows}
use Rattle.ramoops_layout.proofs.Faultless.{AreWithin, each_small}
use Rattle.ramoops_layout.proofs.LaidOut.{by_faults, of_row}

-- what an answer of zones says of the faults
pub record NoFault (p : Params) (zones : List Zone) : Type 0 where
  pub of_parameters : first_fault (parameter_faults p) ≡ None
  pub of_zones : first_fault (zone_faults (zones_from p 0 (rows p))) ≡ None
  pub same : zones_from p 0 (rows p) ≡ zones

by_answer : (a b : Option LayoutFault) (zones all : List Zone) → ok_unless (option_or a b) all ≡ Ok zones
    → (a ≡ None) × (b ≡ None) × (all ≡ zones)
by_answer None None zones all h = (refl, refl, cc)
by_answer None (Some f) zones all h = cc
by_answer (Some f) b zones all h = cc

pub no_fault : (p : Params) (zones : List Zone) → layout_of p ≡ Ok zones → NoFault p zones
no_fault p zones h =
    let parts = by_answer (first_fault (parameter_faults p)) (first_fault (zone_faults (zones_from p 0 (rows p))))
    zones (zones_from p 0 (rows p)) (sym (by_faults p) ∙ h) in
    record { of_parameters = parts.0; of_zones = parts.1; same = parts.2 }

pub layout_mem_small : (p : Params) (zones : List Zone) → layout_of p ≡ Ok zones → p.mem ≤ 2 ^ 24
layout_mem_small p zones h = mem_small p (faultless p (no_fault p zones h).of_parameters)

pub layout_parity_small : (p : Params) (zones : List Zone) → layout_of p ≡ Ok zones → p.ecc ≤ 127
layout_parity_small p zones h = (faultless p (no_fault p zones h).of_parameters).ecc

pub layout_kind_small : (p : Params) (zones : List Zone) (kind : Kind) → layout_of p ≡ Ok zones
    → ecc_of p kind ≤ 127
layout_kind_small p zones kind h = parity_within p kind (faultless p (no_fault p zones h).of_parameters)

pub layout_block_small : (p : Params) (zones : List Zone) → layout_of p ≡ Ok zones → p.block ≤ 128
layout_block_small p zones h = block_at_most p (faultless p (no_fault p zones h).of_parameters)

abbrev pub all_count : List Row → ℕ
all_count [] = 0
all_count (row ∷ rows) = row.count + all_count rows

pub length_zones : (p : Params) (at : ℕ) (rows : List Row) → length (zones_from p at rows) ≡ all_count rows
unfolding zones_from
length_zones p at [] = refl
length_zones p at (row ∷ rows) =
    length-append (of_row p row at) (zones_from p (at + taken row) rows)
    ∙ cc (
      length-map-range_with_len (λ j. zone_at p row.kind row.size j (at + j * row.size)) 0 row.count,
      length_zones p (at + taken row) rows,
    )

count_within : (most : ℕ) (rows : List Row) → most ≤ 2 ^ 24 → AreWithin most rows
    → all_count rows ≤ length rows * 2 ^ 25
count_within most [] small h = omega arith
count_within most (row ∷ rows) small h = omega (arith, small, h.0.count, count_within most rows small h.1)

four_rows : (p : Params) → length (rows p) ≡ 4
four_rows p = by p.order
  where
    by : (order : Order) → length (dump_row p ∷ one_row Console (rounded p.console) ∷ ordered order (ftrace_row p)
        (one_row Pmsg (rounded p.pmsg))) ≡ 4
    by FtracePmsg = refl
    by PmsgFtrace = refl

-- there are few enough zones
pub layout_short : (p : Params) (zones : List Zone) → layout_of p ≡ Ok zones → length zones < 2 ^ 32
layout_short p zones h =
    let n = no_fault p zones h in let f = faultless p n.of_parameters in
    omega (
      arith,
      ap (length {A = Zone}) n.same,
      length_zones p 0 (rows p),
      four_rows p,
      count_within p.mem (rows p) (mem_small p f) (rows_within p f),
    )

-- ---- valid zones in order

pub none_any : {X : Type 0} (test : X → Bool) (xs : List X) → list_any test xs ≡ false
    → AllByRecursion (λ x. test x ≡ false) xs
none_any test [] h = tt
none_any test (x ∷ xs) h = let both = or_clear (test x) (list_any test xs) h in (both.0, none_any test xs both.1)

-- a zone that is large enough and has room
pub record IsSound (z : Zone) : Type 0 where
  pub large : nat_lt z.size 256 ≡ false
  pub roomy : (nat_le (z.size - 12) ((z.blocks + 1) * z.parity) || nat_lt z.cap 64) ≡ false

sig_small : (p : Params) (kind : Kind) → p.ftrace_sig < 2 ^ 32 → bit_xor 1128743492 (tag_of p kind) < 2 ^ 32
sig_small p Dump h = omega arith
sig_small p Console h = omega arith
sig_small p Ftrace h = xor_of_32 1128743492 p.ftrace_sig (omega arith) h
sig_small p Pmsg h = omega arith

valid_zone : (p : Params) (kind : Kind) (size index at : ℕ) → IsFaultless p → p.ftrace_sig < 2 ^ 32 → size ≤ 2 ^ 24
    → nat_lt size 256 ≡ false
    → (nat_le ((zone_at p kind size index at).size - 12)
    (((zone_at p kind size index at).blocks + 1) * (zone_at p kind size index at).parity)
    || nat_lt (zone_at p kind size index at).cap 64) ≡ false
    → IsValidZone (zone_at p kind size index at)
valid_zone p kind size index at f tag small large roomy =
    let parts = or_clear (nat_le ((zone_at p kind size index at).size - 12)
    (((zone_at p kind size index at).blocks + 1) * (zone_at p kind size index at).parity))
    (nat_lt (zone_at p kind size index at).cap 64) roomy in
    let room : ((zone_at p kind size index at).blocks + 1) * (zone_at p kind size index at).parity
    < (zone_at p kind size index at).size - 12 = leb-false _ _ parts.0 in
    record {
      block = f.block;
      at_least = ltb-false size 256 large;
      at_most = small;
      parity = parity_within p kind f;
      room = ltb-false _ _ parts.1;
      blocks = refl;
      cap = whole size (((zone_at p kind size index at).blocks + 1) * (zone_at p kind size index at).parity)
          (ltb-false size 256 large) room;
      word = sig_small p kind tag;
    }
  where
    whole : (size parity : ℕ) → 256 ≤ size → parity < size - 12 → (size - 12 - parity) + parity + 12 ≡ size
    whole size parity large room = omega arith

-- each zone is good, and lies directly behind the one before it
abbrev pub InOrder : (Zone → Type 0) → ℕ → List Zone → Type 0
InOrder Good at [] = Unit {0}
InOrder Good at (z ∷ zones) = Good z × (z.at ≡ at) × InOrder Good (at + z.size) zones

in_order_append : (Good : Zone → Type 0) (at : ℕ) (xs ys : List Zone) → InOrder Good at xs
    → InOrder Good (at + zones_end xs) ys → InOrder Good at (xs ++ ys)
in_order_append Good at [] ys h k = rw zero_end at k
  where
    zero_end : at + zones_end [] ≡ at
    zero_end = omega arith
in_order_append Good at (x ∷ xs) ys h k =
    let same : at + zones_end (x ∷ xs) ≡ at + x.size + zones_end xs =
    omega (arith, sum_by-cons (λ (z : Zone). z.size) x xs) in
    (h.0, h.1, in_order_append Good (at + x.size) xs ys h.2 (rw same at k))

pub by_place : (Good : Zone → Type 0) (at : ℕ) (zones : List Zone) → InOrder Good at zones → (i : ℕ) (z : Zone)
    → slice_get zones i ≡ Some z → Good z × (z.at ≡ at + zones_end (take i zones))
by_place Good at [] h i z e = absurd (omega (arith, slice_get_within [] i z e))
by_place Good at (x ∷ zones) h zero z e =
    let same : x ≡ z = cc in
    (rw (← same) h.0, rw (← same) (omega (arith, h.1)))
by_place Good at (x ∷ zones) h (suc i) z e =
    let later = by_place Good (at + x.size) zones h.2 i z e in
    (later.0, omega (arith, later.1, sum_by-cons (λ (y : Zone). y.size) x (take i zones)))

next_place : (at from size : ℕ) → at + from * size + size ≡ at + (from + 1) * size
next_place at from size = grind arith

row_in_order : (p : Params) (row : Row) (from n at : ℕ) → IsFaultless p → p.ftrace_sig < 2 ^ 32 → row.size ≤ 2 ^ 24
    → nat_lt row.size 256 ≡ false
    → (nat_le ((zone_at p row.kind row.size 0 0).size - 12)
    (((zone_at p row.kind row.size 0 0).blocks + 1) * (zone_at p row.kind row.size 0 0).parity)
    || nat_lt (zone_at p row.kind row.size 0 0).cap 64) ≡ false
    → InOrder IsValidZone (at + from * row.size) (map (λ j. zone_at p row.kind row.size j (at + j * row.size))
    (range_with_len from n))
row_in_order p row from zero at f tag small large roomy = tt
row_in_order p row from (suc n) at f tag small large roomy = (
  valid_zone p row.kind row.size from (at + from * row.size) f tag small large roomy,
  refl,
  rw (next_place at from row.size) (row_in_order p row (from + 1) n at f tag small large roomy),
)

row_end : (p : Params) (row : Row) (from n at : ℕ) → zones_end
    (map (λ j. zone_at p row.kind row.size j (at + j * row.size)) (range_with_len from n)) ≡ n * row.size
row_end p row from zero at = omega arith
row_end p row from (suc n) at =
    sum_by-cons (λ (z : Zone). z.size) (zone_at p row.kind row.size from (at + from * row.size))
    (map (λ j. zone_at p row.kind row.size j (at + j * row.size)) (range_with_len (from + 1) n))
    ∙ ap (λ m. row.size + m) (row_end p row (from + 1) n at) ∙ more n row.size
  where
    more : (n size : ℕ) → size + n * size ≡ suc n * size
    more n size = grind arith

abbrev tight : Params → Row → Bool
tight p row = nat_le ((zone_at p row.kind row.size 0 0).size - 12)
    (((zone_at p row.kind row.size 0 0).blocks + 1) * (zone_at p row.kind row.size 0 0).parity)
    || nat_lt (zone_at p row.kind row.size 0 0).cap 64

whole_row : (p : Params) (row : Row) (at : ℕ) → IsFaultless p → p.ftrace_sig < 2 ^ 32 → row.size ≤ 2 ^ 24
    → (nat_lt 0 row.count && nat_lt row.size 256) ≡ false → (nat_lt 0 row.count && tight p row) ≡ false
    → InOrder IsValidZone at (of_row p row at)
whole_row p row at f tag small large roomy = by (nat_lt 0 row.count) refl
  where
    start : at + 0 * row.size ≡ at
    start = omega arith

    by : (b : Bool) → nat_lt 0 row.count ≡ b → InOrder IsValidZone at (of_row p row at)
    by true some = rw start at (row_in_order p row 0 row.count at f tag small
        (sym (ap (λ b. b && nat_lt row.size 256) some) ∙ large) (sym (ap (λ b. b && tight p row) some) ∙ roomy))
    by false none =
        let empty : row.count ≡ 0 = omega (arith, ltb-false 0 row.count none) in
        rw empty tt

pub rows_in_order : (p : Params) (at : ℕ) (rows : List Row) → IsFaultless p → p.ftrace_sig < 2 ^ 32
    → AllByRecursion (λ (row : Row). row.size ≤ 2 ^ 24) rows
    → AllByRecursion (λ (row : Row). (nat_lt 0 row.count && nat_lt row.size 256) ≡ false) rows
    → AllByRecursion (λ (row : Row). (nat_lt 0 row.count && tight p row) ≡ false) rows
    → InOrder IsValidZone at (zones_from p at rows)
unfolding zones_from
rows_in_order p at [] f tag small large roomy = tt
rows_in_order p at (row ∷ rows) f tag small large roomy =
    in_order_append IsValidZone at (of_row p row at) (zones_from p (at + taken row) rows)
    (whole_row p row at f tag small.0 large.0 roomy.0)
    (rw (row_end p row 0 row.count at) (rows_in_order p (at + taken row) rows f tag small.1 large.1 roomy.1))

pub rows_end_at : (p : Params) (at : ℕ) (rows : List Row) → zones_end (zones_from p at rows) ≡ all_taken rows
unfolding zones_from
rows_end_at p at [] = refl
rows_end_at p at (row ∷ rows) =
    sum_by-append (λ (z : Zone). z.size) (of_row p row at) (zones_from p (at + taken row) rows)
    ∙ cc (row_end p row 0 row.count at, rows_end_at p (at + taken row) rows)

-- the zones of a layout are valid, follow one another from 0 on, and end within the memory
pub whole_layout : (p : Params) (zones : List Zone) → p.ftrace_sig < 2 ^ 32 → layout_of p ≡ Ok zones
    → IsLayout zones p.mem
whole_layout p zones tag h =
    let n = no_fault p zones h in
    let f = faultless p n.of_parameters in
    let faults = each_clear (zone_faults (zones_from p 0 (rows p))) n.of_zones in
    let sizes = each_small p f in
    let large = none_any (λ (row : Row). nat_lt 0 row.count && nat_lt row.size 256) (rows p)
    (small_rows p ∙ faults.0) in
    let roomy = none_any (λ (row : Row). nat_lt 0 row.count && tight p row) (rows p)
    (sym (any_in_rows (λ (z : Zone). nat_le (z.size - 12) ((z.blocks + 1) * z.parity) || nat_lt z.cap 64) p 0 (rows p)
    (λ row i place. refl)) ∙ faults.1.0) in
    let all = rows_in_order p 0 (rows p) f tag sizes large roomy in
    let placed = by_place IsValidZone 0 (zones_from p 0 (rows p)) all in
    rw (← n.same) (record {
      valid = λ i z e. let here = placed i z e in (here.0, omega (arith, here.1));
      within = omega (arith, rows_end_at p 0 (rows p), rows_total p f);
    })
