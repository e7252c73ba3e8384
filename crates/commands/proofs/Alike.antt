-- All dump zones of a layout have one capacity
use Rattle.std.proofs.Common.{◌≡◌, ℕ, zero, suc, ◌+◌, ◌*◌, ◌/◌, true, false, List, [], ◌∷◌, ◌++◌, map, slice_get, Some}
use Rattle.std.proofs.Common.{Ok, refl, sym, subst, ◌∙◌}
use Rattle.std.specs.List.{AllByRecursion, range_with_len}
use Rattle.zone_spec.specs.declared.Kind.TheVariants.{Dump, Pmsg}
use Rattle.zone_spec.specs.declared.Zone.{Zone}
use Rattle.zone_spec.specs.declared.params.Params.{Params}
use Rattle.zone_spec.specs.declared.params.Row.{Row}
use Rattle.zone_spec.specs.Layout.{even, dump_memory, dump_count, rows, zone_at, zones_from, layout_of, rounded}
use Rattle.zone_spec.specs.Layout.{one_row, ftrace_row}
use Rattle.ramoops_layout.proofs.Faultless.{all_ordered}
use Rattle.zone_spec.specs.Records.{is_of}
use Rattle.ramoops_layout.proofs.WholeLayout.{no_fault}
use Rattle.ram_session.specs.Kernels.{DumpsAlike}

-- a dump zone has this capacity
abbrev HasCap : ℕ → Zone → Type 0
HasCap cap z = is_of Dump z.name.kind ≡ true → z.cap ≡ cap

-- so does each zone of a row of dump zones
abbrev RowHasCap : Params → ℕ → Row → Type 0
RowHasCap p cap row = is_of Dump row.kind ≡ true → (zone_at p row.kind row.size 0 0).cap ≡ cap

both : (cap : ℕ) (xs ys : List Zone) → AllByRecursion (HasCap cap) xs → AllByRecursion (HasCap cap) ys
    → AllByRecursion (HasCap cap) (xs ++ ys)
both cap [] ys h k = k
both cap (x ∷ xs) ys h k = (h.0, both cap xs ys h.1 k)

row_caps : (p : Params) (cap : ℕ) (row : Row) (at from n : ℕ) → RowHasCap p cap row
    → AllByRecursion (HasCap cap) (map (λ i. zone_at p row.kind row.size i (at + i * row.size)) (range_with_len from n))
row_caps p cap row at from zero h = tt
row_caps p cap row at from (suc n) h = (h, row_caps p cap row at (from + 1) n h)

rows_caps : (p : Params) (cap at : ℕ) (rows : List Row) → AllByRecursion (RowHasCap p cap) rows
    → AllByRecursion (HasCap cap) (zones_from p at rows)
unfolding zones_from
rows_caps p cap at [] h = tt
rows_caps p cap at (row ∷ rows) h =
    both cap (map (λ i. zone_at p row.kind row.size i (at + i * row.size)) (range_with_len 0 row.count))
    (zones_from p (at + row.count * row.size) rows) (row_caps p cap row at 0 row.count h.0)
    (rows_caps p cap (at + row.count * row.size) rows h.1)

cap_at : (cap : ℕ) (zones : List Zone) (i : ℕ) (z : Zone) → AllByRecursion (HasCap cap) zones
    → slice_get zones i ≡ Some z → HasCap cap z
cap_at cap [] i z h e = absurd (cc)
cap_at cap (x ∷ xs) zero z h e = let same : x ≡ z = cc in subst (HasCap cap) same h.0
cap_at cap (x ∷ xs) (suc i) z h e = cap_at cap xs i z h.1 e

alike_by : (cap : ℕ) (zones : List Zone) → AllByRecursion (HasCap cap) zones → DumpsAlike zones
alike_by cap zones h i j y z e f d g = cap_at cap zones i y h e d ∙ sym (cap_at cap zones j z h f g)

-- the capacity of the dump zones
abbrev dump_cap : Params → ℕ
dump_cap p = (zone_at p Dump (even (dump_memory p / dump_count p)) 0 0).cap

not_dump : (cap cap' : ℕ) → false ≡ true → cap ≡ cap'
not_dump cap cap' e = absurd (cc)

all_caps : (p : Params) → AllByRecursion (HasCap (dump_cap p)) (zones_from p 0 (rows p))
all_caps p = rows_caps p (dump_cap p) 0 (rows p) (
  λ d. refl,
  (
    λ d. not_dump _ _ d,
    all_ordered (RowHasCap p (dump_cap p)) p.order (ftrace_row p) (one_row Pmsg (rounded p.pmsg))
        (λ d. not_dump _ _ d) (λ d. not_dump _ _ d),
  ),
)

pub dumps_alike : (p : Params) (zones : List Zone) → layout_of p ≡ Ok zones → DumpsAlike zones
dumps_alike p zones e = alike_by (dump_cap p) zones
    (subst (AllByRecursion (HasCap (dump_cap p))) (no_fault p zones e).same (all_caps p))
