-- The numbers of a layout's zones have 32 bits
use Rattle.std.proofs.Common.{◌≡◌, ℕ, zero, suc, ◌+◌, ◌*◌, ◌^◌, ◌<◌, ◌≤◌, List, [], ◌∷◌, ◌++◌, map, length, Some, Ok}
use Rattle.std.proofs.Common.{ap, subst, arith}
use Rattle.std.specs.Prelude.{slice_get}
use Rattle.std.specs.List.{AllByRecursion, range_with_len}
use Rattle.std.proofs.lemmas.List.{length-append}
use Rattle.std.proofs.lemmas.List.FromFn.{length-map-range_with_len}
use Rattle.std.proofs.lemmas.Option.{slice_get_within}
use Rattle.list_laws.proofs.Elements.{AllByRecursion-append}
use Rattle.zone_spec.specs.declared.Zone.{Zone}
use Rattle.zone_spec.specs.declared.params.Params.{Params}
use Rattle.zone_spec.specs.declared.params.Row.{Row}
use Rattle.zone_spec.specs.Layout.{rows, zone_at, zones_from, layout_of}
use Rattle.ramoops_layout.proofs.WholeLayout.{no_fault}

abbrev Below : ℕ → Zone → Type 0
Below m z = z.name.index < m

row-below : (p : Params) (row : Row) (at from n m : ℕ) → from + n ≤ m
    → AllByRecursion (Below m) (map (λ i. zone_at p row.kind row.size i (at + i * row.size)) (range_with_len from n))
row-below p row at from zero m h = tt
row-below p row at from (suc n) m h = (omega (arith, h), row-below p row at (from + 1) n m (omega (arith, h)))

numbers-below : (p : Params) (at : ℕ) (rows : List Row) (m : ℕ) → length (zones_from p at rows) ≤ m
    → AllByRecursion (Below m) (zones_from p at rows)
unfolding zones_from
numbers-below p at [] m h = tt
numbers-below p at (row ∷ rows) m h =
    let first = map (λ i. zone_at p row.kind row.size i (at + i * row.size)) (range_with_len 0 row.count) in
    let rest = zones_from p (at + row.count * row.size) rows in
    let both : length (first ++ rest) ≡ length first + length rest = length-append first rest in
    let count : length first ≡ row.count =
    length-map-range_with_len (λ i. zone_at p row.kind row.size i (at + i * row.size)) 0 row.count in
    AllByRecursion-append (Below m) first rest (row-below p row at 0 row.count m (omega (arith, h, both, count)))
    (numbers-below p (at + row.count * row.size) rows m (omega (arith, h, both)))

at-place : {A : Type 0} (P : A → Type 0) (xs : List A) (k : ℕ) (x : A) → AllByRecursion P xs → slice_get xs k ≡ Some x
    → P x
at-place P [] k x h e = absurd (omega (arith, slice_get_within [] k x e))
at-place P (y ∷ ys) zero x h e = let same : y ≡ x = cc in subst P same h.0
at-place P (y ∷ ys) (suc k) x h e = at-place P ys k x h.1 e

pub numbers-small : (p : Params) (zones : List Zone) → layout_of p ≡ Ok zones → length zones < 2 ^ 32
    → (k : ℕ) (z : Zone) → slice_get zones k ≡ Some z → z.name.index < 2 ^ 32
numbers-small p zones h few k z e =
    let same = (no_fault p zones h).same in
    let long : length (zones_from p 0 (rows p)) ≡ length zones = ap length same in
    at-place (Below (2 ^ 32)) zones k z (subst (AllByRecursion (Below (2 ^ 32))) same
    (numbers-below p 0 (rows p) (2 ^ 32) (omega (arith, long, few)))) e
