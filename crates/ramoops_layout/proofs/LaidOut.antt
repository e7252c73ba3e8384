-- The layout step by step, and what its zones are
use Rattle.std.proofs.Common.{◌≡◌, ℕ, ◌+◌, ◌*◌, ◌^◌, ◌<◌, ◌≤◌, Bool, true, false, ◌||◌, if◌then◌else◌, List, [], ◌∷◌}
use Rattle.std.proofs.Common.{◌++◌, map, length, drop, get_or, drop-cons, add-one, append_assoc, Option, Some, None}
use Rattle.std.proofs.Common.{Result, Ok, Err, refl, sym, ap, ◌∙◌, arith}
use Rattle.std.specs.Result.{IsOk}
use Rattle.std.specs.Option.{option_or}
use Rattle.std.specs.List.{All, list_any, range_with_len}
use Rattle.std.proofs.Math.ListN.{drop_of_length-le}
use Rattle.std.proofs.lemmas.List.Elements.{All-from_recursion}
use Rattle.std.proofs.lemmas.List.FromFn.{map-range_with_len_more}
use Rattle.zone_spec.specs.declared.Zone.{Zone}
use Rattle.zone_spec.specs.declared.params.Params.{Params}
use Rattle.zone_spec.specs.declared.params.Row.{Row}
use Rattle.zone_spec.specs.declared.params.LayoutFault.{LayoutFault}
use Rattle.zone_spec.specs.Layout.{rows, zone_at, zones_from, parameter_faults, zone_faults, first_fault, ok_unless}
use Rattle.zone_spec.specs.Layout.{layout_of}
use Rattle.ramoops_layout.specs.Rows.{taken, all_taken, AreSmall}
use Rattle.ramoops_layout.proofs.Faultless.{IsFaultless, each_row, mem_small, sizes_small, rows_total}

pub first_append : (xs ys : List (Bool × LayoutFault)) → first_fault (xs ++ ys)
    ≡ option_or (first_fault xs) (first_fault ys)
first_append [] ys = refl
first_append (x ∷ xs) ys = by x.0 (first_append xs ys)
  where
    by : (b : Bool) → first_fault (xs ++ ys) ≡ option_or (first_fault xs) (first_fault ys)
        → (if b then Some x.1 else first_fault (xs ++ ys)) ≡ option_or (if b then Some x.1 else first_fault xs)
        (first_fault ys)
    by true h = refl
    by false h = h

pub by_faults : (p : Params) → layout_of p ≡ ok_unless
    (option_or (first_fault (parameter_faults p)) (first_fault (zone_faults (zones_from p 0 (rows p)))))
    (zones_from p 0 (rows p))
unfolding layout_of
by_faults p = ap (λ (f : Option LayoutFault). ok_unless f (zones_from p 0 (rows p)))
    (first_append (parameter_faults p) (zone_faults (zones_from p 0 (rows p))))

pub refused : (p : Params) (f : LayoutFault) (r : Option LayoutFault) → r ≡ first_fault (parameter_faults p)
    → r ≡ Some f → layout_of p ≡ Err f
refused p f r h e = by_faults p ∙ ap (λ (x : Option LayoutFault). ok_unless
    (option_or x (first_fault (zone_faults (zones_from p 0 (rows p))))) (zones_from p 0 (rows p))) (sym h ∙ e)

pub refused_zones : (p : Params) (f : LayoutFault) (r s : Option LayoutFault) → r ≡ first_fault (parameter_faults p)
    → r ≡ None
    → s ≡ first_fault (zone_faults (zones_from p 0 (rows p))) → s ≡ Some f → layout_of p ≡ Err f
refused_zones p f r s h e k g = by_faults p ∙ ap (λ (x : Option LayoutFault). ok_unless
    (option_or x (first_fault (zone_faults (zones_from p 0 (rows p))))) (zones_from p 0 (rows p))) (sym h ∙ e)
    ∙ ap (λ (x : Option LayoutFault). ok_unless x (zones_from p 0 (rows p))) (sym k ∙ g)

pub laid_out : (p : Params) (r s : Option LayoutFault) → r ≡ first_fault (parameter_faults p) → r ≡ None
    → s ≡ first_fault (zone_faults (zones_from p 0 (rows p))) → s ≡ None → layout_of p ≡ Ok (zones_from p 0 (rows p))
laid_out p r s h e k g = by_faults p ∙ ap (λ (x : Option LayoutFault). ok_unless
    (option_or x (first_fault (zone_faults (zones_from p 0 (rows p))))) (zones_from p 0 (rows p))) (sym h ∙ e)
    ∙ ap (λ (x : Option LayoutFault). ok_unless x (zones_from p 0 (rows p))) (sym k ∙ g)

pub ok_is : (r : Result (List Zone) LayoutFault) (zones : List Zone) → r ≡ Ok zones → IsOk r
ok_is r zones e = rw e refl

-- ---- rows one behind another

pub drop_next : {X : Type 0} (xs : List X) (i : ℕ) (d : X) → i < length xs → drop i xs ≡ get_or xs i d ∷ drop (i + 1) xs
drop_next xs i d h = rw (add-one, drop-cons xs i d h) refl

-- the zones of one row
abbrev pub of_row : Params → Row → ℕ → List Zone
of_row p row at = map (λ j. zone_at p row.kind row.size j (at + j * row.size)) (range_with_len 0 row.count)

pub rows_step : (p : Params) (at : ℕ) (rows : List Row) (i : ℕ) (d : Row) → i < length rows
    → zones_from p at (drop i rows) ≡ of_row p (get_or rows i d) at ++ zones_from p (at + taken (get_or rows i d))
    (drop (i + 1) rows)
unfolding zones_from
rows_step p at rows i d h = ap (zones_from p at) (drop_next rows i d h)

-- a row's zones added to those that stand
pub rows_next : (p : Params) (at : ℕ) (rows : List Row) (i : ℕ) (d : Row) (zones new all : List Zone)
    → i < length rows → new ≡ zones ++ of_row p (get_or rows i d) at
    → zones ++ zones_from p at (drop i rows) ≡ all → new ++ zones_from p (at + taken (get_or rows i d))
    (drop (i + 1) rows) ≡ all
rows_next p at rows i d zones new all h e so_far =
    ap (λ (xs : List Zone). xs ++ zones_from p (at + taken (get_or rows i d)) (drop (i + 1) rows)) e
    ∙ append_assoc zones (of_row p (get_or rows i d) at)
    (zones_from p (at + taken (get_or rows i d)) (drop (i + 1) rows))
    ∙ sym (ap (λ (xs : List Zone). zones ++ xs) (rows_step p at rows i d h)) ∙ so_far

pub taken_step : (rows : List Row) (i : ℕ) (d : Row) → i < length rows
    → all_taken (drop i rows) ≡ taken (get_or rows i d) + all_taken (drop (i + 1) rows)
taken_step rows i d h = rw (add-one, drop-cons rows i d h) refl

pub rows_end : (p : Params) (at : ℕ) (rows : List Row) (i : ℕ) → length rows ≤ i → zones_from p at (drop i rows) ≡ []
unfolding zones_from
rows_end p at rows i h = rw (drop_of_length-le rows h) refl

counts_small : (p : Params) → IsFaultless p → All (λ (row : Row). row.count < 2 ^ 32) (rows p)
counts_small p f = All-from_recursion (λ (row : Row). row.count < 2 ^ 32) (rows p)
    (each_row p (λ (row : Row). row.count < 2 ^ 32) f (λ row w. omega (arith, w.count, mem_small p f)))

pub rows_small : (p : Params) → IsFaultless p → AreSmall (rows p)
rows_small p f = record {
  sizes = sizes_small p f;
  counts = counts_small p f;
  total = omega (arith, rows_total p f, mem_small p f);
}

-- one more zone of a row
pub one_more : (make : ℕ → Zone) (old so_far new : List Zone) (zone : Zone) (n : ℕ) → new ≡ so_far ++ zone ∷ []
    → so_far ≡ old ++ map make (range_with_len 0 n) → zone ≡ make n
    → new ≡ old ++ map make (range_with_len 0 (n + 1))
one_more make old so_far new zone n h e z =
    h ∙ ap (λ (xs : List Zone). xs ++ zone ∷ []) e ∙ append_assoc old (map make (range_with_len 0 n)) (zone ∷ [])
    ∙ ap (λ (x : Zone). old ++ (map make (range_with_len 0 n) ++ x ∷ [])) z
    ∙ ap (λ (xs : List Zone). old ++ xs) (sym (map-range_with_len_more make 0 n n (omega arith)))

-- a test of what stands from a place on
pub any_drop : {X : Type 0} (test : X → Bool) (xs : List X) (i : ℕ) (d : X) → i < length xs
    → list_any test (drop i xs) ≡ (test (get_or xs i d) || list_any test (drop (i + 1) xs))
any_drop test xs i d h = rw (add-one, drop-cons xs i d h) refl

pub any_here : {X : Type 0} (test : X → Bool) (xs : List X) (i : ℕ) (d : X) → i < length xs
    → test (get_or xs i d) ≡ true → list_any test xs ≡ list_any test (drop i xs) → true ≡ list_any test xs
any_here test xs i d h t e = sym (e ∙ any_drop test xs i d h ∙ ap (λ b. b || list_any test (drop (i + 1) xs)) t)

pub any_past : {X : Type 0} (test : X → Bool) (xs : List X) (i : ℕ) (d : X) → i < length xs
    → test (get_or xs i d) ≡ false → list_any test xs ≡ list_any test (drop i xs)
    → list_any test xs ≡ list_any test (drop (i + 1) xs)
any_past test xs i d h t e = e ∙ any_drop test xs i d h ∙ ap (λ b. b || list_any test (drop (i + 1) xs)) t
