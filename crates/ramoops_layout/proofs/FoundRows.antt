-- The zone of a name, row by row
use Rattle.std.proofs.Common.{◌≡◌, ℕ, zero, suc, ◌+◌, ◌*◌, ◌^◌, ◌<◌, ◌≤◌, Bool, true, false, ◌&&◌, if◌then◌else◌, ◌==◌}
use Rattle.std.proofs.Common.{nat_lt, List, ◌++◌, map, length, drop, get_or, Some, None, refl, sym, ap, ◌∙◌, arith}
use Rattle.std.specs.List.{range_with_len, find}
use Rattle.std.proofs.Math.ListN.{drop_of_length-le}
use Rattle.std.proofs.lemmas.Bool.{ltb-true, ltb-false, and_parts}
use Rattle.std.proofs.lemmas.Nat.{mul-le}
use Rattle.zone_spec.specs.declared.Zone.{Zone}
use Rattle.zone_spec.specs.declared.ZoneName.{ZoneName}
use Rattle.zone_spec.specs.declared.params.Params.{Params}
use Rattle.zone_spec.specs.declared.params.Row.{Row}
use Rattle.zone_spec.specs.Layout.{zone_at, zones_from}
use Rattle.zone_spec.specs.Layouts.{is_zone}
use Rattle.zone_spec.specs.Records.{is_of}
use Rattle.ramoops_layout.specs.Rows.{taken}
use Rattle.ramoops_layout.specs.Found.{zone_named}
use Rattle.ramoops_layout.proofs.LaidOut.{rows_step, of_row}
use Rattle.ramoops_layout.proofs.RowPlaces.{row_holds}

abbrev of_range : Params → Row → ℕ → ℕ → ℕ → List Zone
of_range p row at from n = map (λ j. zone_at p row.kind row.size j (at + j * row.size)) (range_with_len from n)

differs : (i j : ℕ) → i < j → (i == j) ≡ false
differs i j h = grind (arith, h)

equals : (i j : ℕ) → i ≡ j → (i == j) ≡ true
equals i j h = grind (arith, h)

row_passed : (p : Params) (row : Row) (at : ℕ) (name : ZoneName) (ys : List Zone) (from n : ℕ)
    → ((j : ℕ) → j < from + n → (is_of name.kind row.kind && (j == name.index)) ≡ false)
    → find (is_zone name) (of_range p row at from n ++ ys) ≡ find (is_zone name) ys
row_passed p row at name ys from zero h = refl
row_passed p row at name ys from (suc n) h =
    let rest = row_passed p row at name ys (from + 1) n (λ j lt. h j (omega (arith, lt))) in
    ap (λ (b : Bool). if b then Some (zone_at p row.kind row.size from (at + from * row.size))
    else find (is_zone name) (of_range p row at (from + 1) n ++ ys)) (h from (omega arith)) ∙ rest

row_found : (p : Params) (row : Row) (at : ℕ) (name : ZoneName) (ys : List Zone) (from n d : ℕ)
    → is_of name.kind row.kind ≡ true → name.index ≡ from + d → d < n
    → find (is_zone name) (of_range p row at from n ++ ys)
    ≡ Some (zone_at p row.kind row.size name.index (at + name.index * row.size))
row_found p row at name ys from zero d same e lt = absurd (omega (arith, lt))
row_found p row at name ys from (suc n) zero same e lt =
    let is : name.index ≡ from = omega (arith, e) in
    let here : (from == name.index) ≡ true = equals from name.index (sym is) in
    let first : is_zone name (zone_at p row.kind row.size from (at + from * row.size)) ≡ true = cc (same, here) in
    ap (λ (b : Bool). if b then Some (zone_at p row.kind row.size from (at + from * row.size))
    else find (is_zone name) (of_range p row at (from + 1) n ++ ys)) first
    ∙ ap (λ (i : ℕ). Some (zone_at p row.kind row.size i (at + i * row.size))) (sym is)
row_found p row at name ys from (suc n) (suc d) same e lt =
    let later : (from == name.index) ≡ false = differs from name.index (omega (arith, e)) in
    let other : is_zone name (zone_at p row.kind row.size from (at + from * row.size)) ≡ false = cc (same, later) in
    ap (λ (b : Bool). if b then Some (zone_at p row.kind row.size from (at + from * row.size))
    else find (is_zone name) (of_range p row at (from + 1) n ++ ys)) other
    ∙ row_found p row at name ys (from + 1) n d same (omega (arith, e)) (omega (arith, lt))

-- a row without this name is passed
pub row_next : (p : Params) (at : ℕ) (name : ZoneName) (rows : List Row) (i : ℕ) (d : Row) → i < length rows
    → row_holds name (get_or rows i d) ≡ false
    → zone_named (zones_from p at (drop i rows)) name
    ≡ zone_named (zones_from p (at + taken (get_or rows i d)) (drop (i + 1) rows)) name
row_next p at name rows i d lt other =
    let row : Row = get_or rows i d in
    let rest = zones_from p (at + taken row) (drop (i + 1) rows) in
    ap (λ zs. zone_named zs name) (rows_step p at rows i d lt)
    ∙ by (is_of name.kind row.kind) (nat_lt name.index row.count) refl refl rest
  where
    by : (k l : Bool) → is_of name.kind (get_or rows i d).kind ≡ k → nat_lt name.index (get_or rows i d).count ≡ l
        → (rest : List Zone)
        → find (is_zone name) (of_row p (get_or rows i d) at ++ rest) ≡ find (is_zone name) rest
    by true true kind within rest = let n : ◌≡◌ {A = Bool} true false = sym (cc (kind, within)) ∙ other in cc
    by true false kind past rest = row_passed p (get_or rows i d) at name rest 0 (get_or rows i d).count
        (λ j lt. cc (kind, differs j name.index (omega (arith, lt, ltb-false _ _ past))))
    by false l kind within rest = row_passed p (get_or rows i d) at name rest 0 (get_or rows i d).count (λ j lt. cc kind)

-- and one with this name has it
pub row_has : (p : Params) (at : ℕ) (name : ZoneName) (rows : List Row) (i : ℕ) (d : Row) → i < length rows
    → row_holds name (get_or rows i d) ≡ true
    → zone_named (zones_from p at (drop i rows)) name
    ≡ Some (zone_at p (get_or rows i d).kind (get_or rows i d).size name.index
    (at + name.index * (get_or rows i d).size))
row_has p at name rows i d lt holds =
    let row : Row = get_or rows i d in
    let parts = and_parts (is_of name.kind row.kind) (nat_lt name.index row.count) holds in
    ap (λ zs. zone_named zs name) (rows_step p at rows i d lt)
    ∙ row_found p row at name (zones_from p (at + taken row) (drop (i + 1) rows)) 0 row.count name.index parts.0
    (omega arith) (ltb-true _ _ parts.1)

pub none_left : (p : Params) (at : ℕ) (name : ZoneName) (rows : List Row) (i : ℕ) → length rows ≤ i
    → zone_named (zones_from p at (drop i rows)) name ≡ None
unfolding zones_from
none_left p at name rows i h = rw (drop_of_length-le rows h) refl

-- where a zone of a row lies
pub in_row : (at index i count size rest all : ℕ) → i ≡ index → index < count → all ≡ count * size + rest
    → at + all ≤ 2 ^ 24 → at + i * size < 2 ^ 32
in_row at index i count size rest all e lt is within =
    let product : i * size ≤ count * size = mul-le i size count size (omega (arith, e, lt)) (omega arith) in
    omega (arith, product, is, within)
