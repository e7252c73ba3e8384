-- The place of a zone of a name, from the numbers of zones of the rows
use Rattle.std.proofs.Common.{◌≡◌, ℕ, zero, suc, ◌+◌, ◌*◌, ◌^◌, ◌<◌, ◌≤◌, Bool, true, false, not, ◌&&◌, if◌then◌else◌}
use Rattle.std.proofs.Common.{◌==◌, nat_lt, List, [], ◌∷◌, ◌++◌, map, length, drop, get_or, Option, Some, None, Ok}
use Rattle.std.proofs.Common.{refl, sym, ap, ◌∙◌, arith}
use Rattle.std.specs.List.{range_with_len, position_or_len, sum_by}
use Rattle.std.proofs.Math.ListN.{drop_of_length-le}
use Rattle.std.proofs.lemmas.List.Sums.{sum_by-cons}
use Rattle.std.proofs.lemmas.Bool.{lt-ltb, le-ltb, ltb-true, ltb-false}
use Rattle.zone_spec.specs.declared.Zone.{Zone}
use Rattle.zone_spec.specs.declared.ZoneName.{ZoneName}
use Rattle.zone_spec.specs.declared.params.Params.{Params}
use Rattle.zone_spec.specs.declared.params.Row.{Row}
use Rattle.zone_spec.specs.Layout.{zone_at, zones_from, rows, layout_of}
use Rattle.zone_spec.specs.Layouts.{is_zone, zone_place}
use Rattle.zone_spec.specs.Records.{is_of}
use Rattle.ramoops_layout.specs.Rows.{taken}
use Rattle.ramoops_layout.proofs.LaidOut.{drop_next}
use Rattle.ramoops_layout.proofs.WholeLayout.{all_count, length_zones, no_fault, layout_short}
use Rattle.ramoops_layout.proofs.Texts.{if_true, if_false}

-- whether a row has a zone of this name
abbrev pub row_holds : ZoneName → Row → Bool
row_holds name row = is_of name.kind row.kind && nat_lt name.index row.count

-- the zones in front of that of this name, or all
unfoldable pub rows_place : ZoneName → List Row → ℕ
rows_place name [] = 0
rows_place name (row ∷ rows) = if row_holds name row then name.index else row.count + rows_place name rows

-- ---- the zones of one row, in front of others

abbrev of_range : Params → Row → ℕ → ℕ → ℕ → List Zone
of_range p row at from n = map (λ j. zone_at p row.kind row.size j (at + j * row.size)) (range_with_len from n)

differs : (i j : ℕ) → i < j → (i == j) ≡ false
differs i j h = grind (arith, h)

equals : (i j : ℕ) → i ≡ j → (i == j) ≡ true
equals i j h = grind (arith, h)

and_false : (b : Bool) → (b && false) ≡ false
and_false true = refl
and_false false = refl

row_passed : (p : Params) (row : Row) (at : ℕ) (name : ZoneName) (ys : List Zone) (from n : ℕ)
    → ((j : ℕ) → j < from + n → (is_of name.kind row.kind && (j == name.index)) ≡ false)
    → position_or_len (is_zone name) (of_range p row at from n ++ ys) ≡ n + position_or_len (is_zone name) ys
row_passed p row at name ys from zero h = omega arith
row_passed p row at name ys from (suc n) h =
    let rest = row_passed p row at name ys (from + 1) n (λ j lt. h j (omega (arith, lt))) in
    ap (λ (b : Bool). if not b then 1 + position_or_len (is_zone name) (of_range p row at (from + 1) n ++ ys) else 0)
    (h from (omega arith)) ∙ omega (arith, rest)

row_found : (p : Params) (row : Row) (at : ℕ) (name : ZoneName) (ys : List Zone) (from n d : ℕ)
    → is_of name.kind row.kind ≡ true → name.index ≡ from + d → d < n
    → position_or_len (is_zone name) (of_range p row at from n ++ ys) ≡ d
row_found p row at name ys from zero d same e lt = absurd (omega (arith, lt))
row_found p row at name ys from (suc n) zero same e lt =
    let here : (from == name.index) ≡ true = equals from name.index (omega (arith, e)) in
    let first : is_zone name (zone_at p row.kind row.size from (at + from * row.size)) ≡ true = cc (same, here) in
    ap (λ (b : Bool). if not b then 1 + position_or_len (is_zone name) (of_range p row at (from + 1) n ++ ys) else 0)
    first
row_found p row at name ys from (suc n) (suc d) same e lt =
    let later : (from == name.index) ≡ false = differs from name.index (omega (arith, e)) in
    let rest = row_found p row at name ys (from + 1) n d same (omega (arith, e)) (omega (arith, lt)) in
    let other : is_zone name (zone_at p row.kind row.size from (at + from * row.size)) ≡ false = cc (same, later) in
    ap (λ (b : Bool). if not b then 1 + position_or_len (is_zone name) (of_range p row at (from + 1) n ++ ys) else 0)
    other ∙ omega (arith, rest)

-- ---- all rows

pub place_in_rows : (p : Params) (name : ZoneName) (at : ℕ) (rows : List Row)
    → position_or_len (is_zone name) (zones_from p at rows) ≡ rows_place name rows
unfolding zones_from rows_place
place_in_rows p name at [] = refl
place_in_rows p name at (row ∷ rows) =
    by (is_of name.kind row.kind) (nat_lt name.index row.count) refl refl (place_in_rows p name (at + taken row) rows)
  where
    by : (k l : Bool) → is_of name.kind row.kind ≡ k → nat_lt name.index row.count ≡ l
        → position_or_len (is_zone name) (zones_from p (at + taken row) rows) ≡ rows_place name rows
        → position_or_len (is_zone name) (of_range p row at 0 row.count ++ zones_from p (at + taken row) rows)
        ≡ (if k && l then name.index else row.count + rows_place name rows)
    by true true kind within rest = row_found p row at name (zones_from p (at + taken row) rows) 0 row.count name.index
        kind (omega arith) (ltb-true _ _ within)
    by true false kind past rest =
        row_passed p row at name (zones_from p (at + taken row) rows) 0 row.count
        (λ j lt. cc (kind, differs j name.index (omega (arith, lt, ltb-false _ _ past))))
        ∙ omega (arith, rest)
    by false l other within rest =
        row_passed p row at name (zones_from p (at + taken row) rows) 0 row.count (λ j lt. cc other)
        ∙ omega (arith, rest)

pub count_sum : (rows : List Row) → all_count rows ≡ sum_by (λ (row : Row). row.count) rows
count_sum [] = refl
count_sum (row ∷ rows) = ap (λ n. row.count + n) (count_sum rows) ∙ sym (sum_by-cons (λ (r : Row). r.count) row rows)

-- ---- row by row

pub row_next : (name : ZoneName) (rows : List Row) (i first : ℕ) (d : Row) → i < length rows
    → row_holds name (get_or rows i d) ≡ false
    → rows_place name rows ≡ first + rows_place name (drop i rows)
    → rows_place name rows ≡ first + (get_or rows i d).count + rows_place name (drop (i + 1) rows)
unfolding rows_place
row_next name rows i first d lt other e =
    let next : rows_place name (drop i rows) ≡ (get_or rows i d).count + rows_place name (drop (i + 1) rows) =
    ap (rows_place name) (drop_next rows i d lt)
    ∙ ap (λ (b : Bool). if b then name.index else (get_or rows i d).count + rows_place name (drop (i + 1) rows)) other
    in omega (arith, e, next)

pub counts_next : (rows : List Row) (i : ℕ) (d : Row) → i < length rows
    → sum_by (λ (row : Row). row.count) (drop i rows)
    ≡ (get_or rows i d).count + sum_by (λ (row : Row). row.count) (drop (i + 1) rows)
counts_next rows i d lt = ap (sum_by (λ (row : Row). row.count)) (drop_next rows i d lt)
    ∙ sum_by-cons (λ (row : Row). row.count) (get_or rows i d) (drop (i + 1) rows)

pub place_found : (p : Params) (at : ℕ) (name : ZoneName) (rows : List Row) (i first : ℕ) (d : Row) → i < length rows
    → row_holds name (get_or rows i d) ≡ true → name.index < (get_or rows i d).count
    → rows_place name rows ≡ first + rows_place name (drop i rows)
    → first + sum_by (λ (row : Row). row.count) (drop i rows) ≡ sum_by (λ (row : Row). row.count) rows
    → Some (first + name.index) ≡ zone_place (zones_from p at rows) name
unfolding rows_place
place_found p at name rows i first d lt holds below e all =
    let zones = zones_from p at rows in
    let here : rows_place name (drop i rows) ≡ name.index =
    ap (rows_place name) (drop_next rows i d lt)
    ∙ ap (λ (b : Bool). if b then name.index else (get_or rows i d).count + rows_place name (drop (i + 1) rows)) holds
    in
    let is : position_or_len (is_zone name) zones ≡ first + name.index =
    place_in_rows p name at rows ∙ omega (arith, e, here) in
    let within : position_or_len (is_zone name) zones < length zones =
    omega (arith, is, below, all, counts_next rows i d lt, length_zones p at rows, count_sum rows) in
    sym (if_true (nat_lt (position_or_len (is_zone name) zones) (length zones))
    (Some (position_or_len (is_zone name) zones)) None (lt-ltb _ _ within) ∙ ap Some is)

pub place_nowhere : (p : Params) (at : ℕ) (name : ZoneName) (rows : List Row) (i first : ℕ) → length rows ≤ i
    → rows_place name rows ≡ first + rows_place name (drop i rows)
    → first + sum_by (λ (row : Row). row.count) (drop i rows) ≡ sum_by (λ (row : Row). row.count) rows
    → None ≡ zone_place (zones_from p at rows) name
unfolding rows_place
place_nowhere p at name rows i first past e all =
    let zones = zones_from p at rows in
    let end = drop_of_length-le rows past in
    let least : rows_place name (drop i rows) ≡ 0 = ap (rows_place name) end in
    let none : sum_by (λ (row : Row). row.count) (drop i rows) ≡ 0 = ap (sum_by (λ (row : Row). row.count)) end in
    let is : position_or_len (is_zone name) zones ≡ first = place_in_rows p name at rows ∙ omega (arith, e, least) in
    sym (if_false (nat_lt (position_or_len (is_zone name) zones) (length zones))
    (Some (position_or_len (is_zone name) zones)) None
    (le-ltb _ _ (omega (arith, is, all, none, length_zones p at rows, count_sum rows))))

-- ---- the rows of a layout

-- there are few enough zones
pub rows_few : (p : Params) (zones : List Zone) → layout_of p ≡ Ok zones
    → sum_by (λ (row : Row). row.count) (rows p) < 2 ^ 32
rows_few p zones h = omega (
  arith,
  layout_short p zones h,
  ap (length {A = Zone}) (no_fault p zones h).same,
  length_zones p 0 (rows p),
  count_sum (rows p),
)

pub place_in_layout : (p : Params) (zones : List Zone) (name : ZoneName) (r : Option ℕ) → layout_of p ≡ Ok zones
    → ((q : Params) (at : ℕ) → r ≡ zone_place (zones_from q at (rows p)) name) → r ≡ zone_place zones name
place_in_layout p zones name r h e = e p 0 ∙ ap (λ (zs : List Zone). zone_place zs name) (no_fault p zones h).same
