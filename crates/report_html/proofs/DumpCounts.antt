-- Each dump is counted once. For `each_dump_is_counted_once`.
use Rattle.std.proofs.Common.{◌≡◌, ℕ, zero, suc, ◌+◌, Bool, true, false, not, ◌||◌, cond, List, [], ◌∷◌, ◌++◌, length}
use Rattle.std.proofs.Common.{take, refl, sym, ap, ap₂, ◌∙◌, arith, Option, Some, None}
use Rattle.std.specs.Prelude.{⊤, bytes_eq, filter, fold}
use Rattle.std.specs.List.{list_any, sum_by}
use Rattle.std.proofs.lemmas.Bool.{true≢false}
use Rattle.std.proofs.lemmas.Bool.Decides.{same_from_decides}
use Rattle.std.proofs.lemmas.List.Sums.{sum_by-cons}
use Rattle.std.proofs.lemmas.Slice.Eq.{bytes_eq-Decides}
use Rattle.report_html.specs.Causes.{CrashShown, is_same_line, has_line_of, with_first, firsts_of, rows_of, has_no_row}

-- ---- lines

same-is : (a b : Option (List ℕ)) → is_same_line a b ≡ true → a ≡ b
same-is None None e = refl
same-is None (Some b) e = cc
same-is (Some a) None e = cc
same-is (Some a) (Some b) e = ap (λ (l : List ℕ). Some l) ((bytes_eq-Decides a b).0 e)

same-self : (a : Option (List ℕ)) → is_same_line a a ≡ true
same-self None = refl
same-self (Some a) = (bytes_eq-Decides a a).1 refl

same-sym : (a b : Option (List ℕ)) → is_same_line a b ≡ is_same_line b a
same-sym None None = refl
same-sym None (Some b) = refl
same-sym (Some a) None = refl
same-sym (Some a) (Some b) =
    same_from_decides (bytes_eq a b) (bytes_eq b a) (bytes_eq-Decides a b)
    (λ e. sym ((bytes_eq-Decides b a).0 e), λ e. (bytes_eq-Decides b a).1 (sym e))

-- ---- the lines of rows differ

abbrev Unlike : CrashShown → List CrashShown → Type 0
Unlike f [] = ⊤
Unlike f (r ∷ rs) = (has_line_of r f ≡ false) × Unlike f rs

abbrev Apart : List CrashShown → Type 0
Apart [] = ⊤
Apart (f ∷ fs) = Unlike f fs × Apart fs

unlike-on : (f : CrashShown) (rs : List CrashShown) (c : CrashShown) → Unlike f rs → has_line_of c f ≡ false
    → Unlike f (rs ++ c ∷ [])
unlike-on f [] c u e = (e, tt)
unlike-on f (r ∷ rs) c u e = (u.0, unlike-on f rs c u.1 e)

or-none : (a b : Bool) → (a || b) ≡ false → (a ≡ false) × (b ≡ false)
or-none true b e = cc
or-none false b e = (refl, e)

apart-on : (fs : List CrashShown) (c : CrashShown) → Apart fs → list_any (has_line_of c) fs ≡ false
    → Apart (fs ++ c ∷ [])
apart-on [] c a e = (tt, tt)
apart-on (f ∷ fs) c a e =
    let both = or-none (has_line_of c f) (list_any (has_line_of c) fs) e in
    (unlike-on f fs c a.0 both.0, apart-on fs c a.1 both.1)

apart-first : (fs : List CrashShown) (c : CrashShown) (t : Bool) → list_any (has_line_of c) fs ≡ t → Apart fs
    → Apart (cond t fs (fs ++ c ∷ []))
apart-first fs c true e a = a
apart-first fs c false e a = apart-on fs c a e

apart-firsts : (cs fs : List CrashShown) → Apart fs → Apart (fold with_first fs cs)
apart-firsts [] fs a = a
apart-firsts (c ∷ cs) fs a =
    apart-firsts cs (with_first fs c) (apart-first fs c (list_any (has_line_of c) fs) refl a)

unlike-take : (n : ℕ) (f : CrashShown) (rs : List CrashShown) → Unlike f rs → Unlike f (take n rs)
unlike-take zero f rs u = tt
unlike-take (suc n) f [] u = tt
unlike-take (suc n) f (r ∷ rs) u = (u.0, unlike-take n f rs u.1)

apart-take : (n : ℕ) (fs : List CrashShown) → Apart fs → Apart (take n fs)
apart-take zero fs a = tt
apart-take (suc n) [] a = tt
apart-take (suc n) (f ∷ fs) a = (unlike-take n f fs a.0, apart-take n fs a.1)

differs : (f c r : CrashShown) → c.line ≡ f.line → has_line_of r f ≡ false → has_line_of c r ≡ false
differs f c r e u = by (is_same_line c.line r.line) refl
  where
    by : (t : Bool) → is_same_line c.line r.line ≡ t → is_same_line c.line r.line ≡ false
    by true h =
        let same : r.line ≡ f.line = sym (same-is c.line r.line h) ∙ e in
        let alike : is_same_line r.line f.line ≡ true =
        ap (λ (l : Option (List ℕ)). is_same_line l f.line) same ∙ same-self f.line in
        absurd (true≢false (sym alike ∙ u))
    by false h = h

-- a dump with the line of a row has that of no later one
not-again : (f c : CrashShown) (rs : List CrashShown) → c.line ≡ f.line → Unlike f rs
    → list_any (has_line_of c) rs ≡ false
not-again f c [] e u = refl
not-again f c (r ∷ rs) e u = ap₂ (λ (a b : Bool). a || b) (differs f c r e u.0) (not-again f c rs e u.1)

-- ---- counts

one : (a b : Bool) → (a ≡ true → b ≡ false) → cond a 1 0 + cond (not (a || b)) 1 0 ≡ cond (not b) 1 0
one true b h = sym (ap (λ (t : Bool). cond (not t) 1 0) (h refl))
one false true h = refl
one false false h = refl

kept-length : (c : CrashShown) (cs : List CrashShown) (t : Bool) → length (cond t (c ∷ cs) cs) ≡ cond t 1 0 + length cs
kept-length c cs true = omega arith
kept-length c cs false = omega arith

split : (f : CrashShown) (rs cs : List CrashShown) → Unlike f rs
    → length (filter (has_line_of f) cs) + length (filter (has_no_row (f ∷ rs)) cs) ≡ length (filter (has_no_row rs) cs)
split f rs [] u = refl
split f rs (c ∷ cs) u =
    let a : Bool = has_line_of c f in
    let b : Bool = list_any (has_line_of c) rs in
    let own = kept-length c (filter (has_line_of f) cs) (has_line_of f c)
    ∙ ap (λ (t : Bool). cond t 1 0 + length (filter (has_line_of f) cs)) (same-sym f.line c.line) in
    let no_more = kept-length c (filter (has_no_row (f ∷ rs)) cs) (not (a || b)) in
    let no_row = kept-length c (filter (has_no_row rs) cs) (not b) in
    let each = one a b (λ h. not-again f c rs (same-is c.line f.line h) u) in
    let rest = split f rs cs u in
    omega (arith, own, no_more, no_row, each, rest)

all-others : (cs : List CrashShown) → length (filter (has_no_row []) cs) ≡ length cs
all-others [] = refl
all-others (c ∷ cs) = let rest = all-others cs in omega (arith, rest)

total : (rows cs : List CrashShown) → Apart rows
    → sum_by (λ (f : CrashShown). length (filter (has_line_of f) cs)) rows + length (filter (has_no_row rows) cs)
    ≡ length cs
total [] cs a = let all = all-others cs in omega (arith, all)
total (f ∷ fs) cs a =
    let more = sum_by-cons (λ (g : CrashShown). length (filter (has_line_of g) cs)) f fs in
    let here = split f fs cs a.0 in
    let rest = total fs cs a.1 in
    omega (arith, more, here, rest)

pub counted-once : (cs : List CrashShown)
    → sum_by (λ (f : CrashShown). length (filter (has_line_of f) cs)) (rows_of cs)
    + length (filter (has_no_row (rows_of cs)) cs) ≡ length cs
counted-once cs = total (rows_of cs) cs (apart-take 15 (firsts_of cs) (apart-firsts cs [] tt))
