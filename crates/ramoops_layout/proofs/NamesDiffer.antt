-- No two zones of a layout have the same name
use Rattle.std.proofs.Common.{◌≡◌, ℕ, zero, suc, ◌+◌, ◌*◌, ◌<◌, ◌≤◌, Bool, true, false, not, if◌then◌else◌, ◌==◌}
use Rattle.std.proofs.Common.{nat_lt, List, [], ◌∷◌, ◌++◌, map, length, Some, None, Ok, refl, sym, ap, subst, ◌∙◌}
use Rattle.std.proofs.Common.{arith, slice_get}
use Rattle.std.specs.List.{AllByRecursion, range_with_len, position_or_len}
use Rattle.std.proofs.lemmas.Bool.{lt-ltb}
use Rattle.std.proofs.lemmas.Option.{slice_get_within}
use Rattle.zone_spec.specs.declared.Kind.{Kind}
use Rattle.zone_spec.specs.declared.Kind.TheVariants.{Dump, Console, Ftrace, Pmsg}
use Rattle.zone_spec.specs.declared.Zone.{Zone}
use Rattle.zone_spec.specs.declared.params.Order.{Order}
use Rattle.zone_spec.specs.declared.params.Order.TheVariants.{FtracePmsg, PmsgFtrace}
use Rattle.zone_spec.specs.declared.params.Params.{Params}
use Rattle.zone_spec.specs.declared.params.Row.{Row}
use Rattle.zone_spec.specs.Layout.{rows, zone_at, zones_from, layout_of, rounded, one_row, ftrace_row, ordered}
use Rattle.zone_spec.specs.Layouts.{is_zone}
use Rattle.zone_spec.specs.Records.{is_of}
use Rattle.ramoops_layout.specs.Laid.{NamesDiffer}
use Rattle.ramoops_layout.proofs.LaidOut.{of_row}
use Rattle.ramoops_layout.specs.Rows.{taken}
use Rattle.ramoops_layout.proofs.Texts.{if_true}
use Rattle.ramoops_layout.proofs.WholeLayout.{no_fault}

-- none of these zones has the name of the first
abbrev ApartFrom : Zone → List Zone → Type 0
ApartFrom first zones = AllByRecursion (λ (z : Zone). is_zone z.name first ≡ false) zones

-- each zone's name is none of those behind it
abbrev Apart : List Zone → Type 0
Apart [] = Unit {0}
Apart (z ∷ zones) = ApartFrom z zones × Apart zones

all_append : {X : Type 0} (P : X → Type 0) (xs ys : List X) → AllByRecursion P xs → AllByRecursion P ys
    → AllByRecursion P (xs ++ ys)
all_append P [] ys h k = k
all_append P (x ∷ xs) ys h k = (h.0, all_append P xs ys h.1 k)

all_map : {X : Type 0} (P Q : X → Type 0) → ((x : X) → P x → Q x) → (xs : List X) → AllByRecursion P xs
    → AllByRecursion Q xs
all_map P Q f [] h = tt
all_map P Q f (x ∷ xs) h = (f x h.0, all_map P Q f xs h.1)

apart_append : (xs ys : List Zone) → Apart xs → Apart ys → AllByRecursion (λ (x : Zone). ApartFrom x ys) xs
    → Apart (xs ++ ys)
apart_append [] ys h k all = k
apart_append (x ∷ xs) ys h k all = (
  all_append (λ (z : Zone). is_zone z.name x ≡ false) xs ys h.0 all.0,
  apart_append xs ys h.1 k all.1,
)

-- ---- the zones of one row

same_kind : (k : Kind) → is_of k k ≡ true
same_kind Dump = refl
same_kind Console = refl
same_kind Ftrace = refl
same_kind Pmsg = refl

same_index : (i : ℕ) → (i == i) ≡ true
same_index i = grind arith

later_index : (i j : ℕ) → i < j → (i == j) ≡ false
later_index i j h = grind (arith, h)

row_later : (p : Params) (row : Row) (at j from n : ℕ) → j < from
    → ApartFrom (zone_at p row.kind row.size j (at + j * row.size))
    (map (λ i. zone_at p row.kind row.size i (at + i * row.size)) (range_with_len from n))
row_later p row at j from zero h = tt
row_later p row at j from (suc n) h = (
  cc (same_kind row.kind, later_index j from h),
  row_later p row at j (from + 1) n (omega (arith, h)),
)

row_apart : (p : Params) (row : Row) (at from n : ℕ) → Apart
    (map (λ i. zone_at p row.kind row.size i (at + i * row.size)) (range_with_len from n))
row_apart p row at from zero = tt
row_apart p row at from (suc n) = (row_later p row at from (from + 1) n (omega arith), row_apart p row at (from + 1) n)

-- ---- rows of different kinds

abbrev rank_of_ftrace : Order → ℕ
rank_of_ftrace FtracePmsg = 2
rank_of_ftrace PmsgFtrace = 3

abbrev rank_of_pmsg : Order → ℕ
rank_of_pmsg FtracePmsg = 3
rank_of_pmsg PmsgFtrace = 2

-- a kind's place in an order
abbrev rank : Order → Kind → ℕ
rank o Dump = 0
rank o Console = 1
rank o Ftrace = rank_of_ftrace o
rank o Pmsg = rank_of_pmsg o

differ : (o : Order) (k l : Kind) → rank o k < rank o l → is_of l k ≡ false
differ o Dump Dump h = absurd (omega (arith, h))
differ o Dump Console h = refl
differ o Dump Ftrace h = refl
differ o Dump Pmsg h = refl
differ o Console Dump h = refl
differ o Console Console h = absurd (omega (arith, h))
differ o Console Ftrace h = refl
differ o Console Pmsg h = refl
differ o Ftrace Dump h = refl
differ o Ftrace Console h = refl
differ o Ftrace Ftrace h = absurd (omega (arith, h))
differ o Ftrace Pmsg h = refl
differ o Pmsg Dump h = refl
differ o Pmsg Console h = refl
differ o Pmsg Ftrace h = refl
differ o Pmsg Pmsg h = absurd (omega (arith, h))

-- the kinds rise from this rank on
abbrev Rising : Order → ℕ → List Row → Type 0
Rising o low [] = Unit {0}
Rising o low (row ∷ rows) = (low ≤ rank o row.kind) × Rising o (rank o row.kind + 1) rows

abbrev From : Order → ℕ → List Zone → Type 0
From o low zones = AllByRecursion (λ (z : Zone). low ≤ rank o z.name.kind) zones

row_from : (p : Params) (o : Order) (row : Row) (low at from n : ℕ) → low ≤ rank o row.kind
    → From o low (map (λ i. zone_at p row.kind row.size i (at + i * row.size)) (range_with_len from n))
row_from p o row low at from zero h = tt
row_from p o row low at from (suc n) h = (h, row_from p o row low at (from + 1) n h)

apart_behind : (o : Order) (kind : Kind) (first : Zone) (zones : List Zone) → first.name.kind ≡ kind
    → From o (rank o kind + 1) zones → ApartFrom first zones
apart_behind o kind first zones e h = all_map (λ (z : Zone). rank o kind + 1 ≤ rank o z.name.kind)
    (λ (z : Zone). is_zone z.name first ≡ false) (λ z le. by z (differ o kind z.name.kind (omega (arith, le)))) zones h
  where
    by : (z : Zone) → is_of z.name.kind kind ≡ false → is_zone z.name first ≡ false
    by z f = cc (e, f)

row_behind : (p : Params) (o : Order) (row : Row) (at from n : ℕ) (zones : List Zone) → From o (rank o row.kind + 1) zones
    → AllByRecursion (λ (x : Zone). ApartFrom x zones) (map (λ i. zone_at p row.kind row.size i (at + i * row.size))
    (range_with_len from n))
row_behind p o row at from zero zones h = tt
row_behind p o row at from (suc n) zones h = (
  apart_behind o row.kind
      (zone_at p row.kind row.size from (at + from * row.size)) zones refl h,
  row_behind p o row at (from + 1) n zones h,
)

weaker : (o : Order) (low high : ℕ) (zones : List Zone) → low ≤ high → From o high zones → From o low zones
weaker o low high zones le h = all_map (λ (z : Zone). high ≤ rank o z.name.kind) (λ (z : Zone). low ≤ rank o z.name.kind)
    (λ z k. omega (arith, le, k)) zones h

rows_apart : (p : Params) (o : Order) (low at : ℕ) (rows : List Row) → Rising o low rows
    → Apart (zones_from p at rows) × From o low (zones_from p at rows)
unfolding zones_from
rows_apart p o low at [] h = (tt, tt)
rows_apart p o low at (row ∷ rows) h =
    let rest = rows_apart p o (rank o row.kind + 1) (at + taken row) rows h.1 in (
      apart_append (of_row p row at) (zones_from p (at + taken row) rows) (row_apart p row at 0 row.count) rest.0
          (row_behind p o row at 0 row.count (zones_from p (at + taken row) rows) rest.1),
      all_append (λ (z : Zone). low ≤ rank o z.name.kind) (of_row p row at) (zones_from p (at + taken row) rows)
          (row_from p o row low at 0 row.count h.0)
          (weaker o low (rank o row.kind + 1) (zones_from p (at + taken row) rows) (omega (arith, h.0)) rest.1),
    )

rising : (p : Params) (o : Order) → Rising o 2 (ordered o (ftrace_row p) (one_row Pmsg (rounded p.pmsg)))
rising p FtracePmsg = (omega arith, (omega arith, tt))
rising p PmsgFtrace = (omega arith, (omega arith, tt))

all_rising : (p : Params) → Rising p.order 0 (rows p)
all_rising p = (omega arith, (omega arith, rising p p.order))

-- ---- the place of a zone of a name

self_named : (z : Zone) → is_zone z.name z ≡ true
self_named z = cc (same_kind z.name.kind, same_index z.name.index)

apart_at : (first : Zone) (zones : List Zone) (i : ℕ) (z : Zone) → ApartFrom first zones → slice_get zones i ≡ Some z
    → is_zone z.name first ≡ false
apart_at first [] i z h e = absurd (omega (arith, slice_get_within [] i z e))
apart_at first (x ∷ zones) zero z h e = let same : x ≡ z = cc in rw same at h.0
apart_at first (x ∷ zones) (suc i) z h e = apart_at first zones i z h.1 e

place_is : (zones : List Zone) (i : ℕ) (z : Zone) → Apart zones → slice_get zones i ≡ Some z
    → position_or_len (is_zone z.name) zones ≡ i
place_is [] i z h e = absurd (omega (arith, slice_get_within [] i z e))
place_is (x ∷ zones) zero z h e =
    let same : x ≡ z = cc in
    ap (λ (b : Bool). if not b then 1 + position_or_len (is_zone z.name) zones else 0)
    (subst (λ (y : Zone). is_zone z.name y ≡ true) (sym same) (self_named z))
place_is (x ∷ zones) (suc i) z h e =
    ap (λ (b : Bool). if not b then 1 + position_or_len (is_zone z.name) zones else 0) (apart_at x zones i z h.0 e)
    ∙ omega (arith, place_is zones i z h.1 e)

pub names_differ : (p : Params) (zones : List Zone) → layout_of p ≡ Ok zones → NamesDiffer zones
names_differ p zones h i z e =
    let n = no_fault p zones h in
    let apart = rw n.same at (rows_apart p p.order 0 0 (rows p) (all_rising p)).0 in
    let at : position_or_len (is_zone z.name) zones ≡ i = place_is zones i z apart e in
    if_true (nat_lt (position_or_len (is_zone z.name) zones) (length zones))
    (Some (position_or_len (is_zone z.name) zones)) None
    (lt-ltb _ _ (omega (arith, at, slice_get_within zones i z e))) ∙ ap Some at
