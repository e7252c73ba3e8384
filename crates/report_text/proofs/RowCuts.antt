-- Rows that are cut, one byte after another
use Rattle.std.proofs.Common.{◌≡◌, ℕ, ◌+◌, ◌-◌, ◌<◌, ◌≤◌, Bool, true, false, List, [], ◌∷◌, ◌++◌, length, take, drop}
use Rattle.std.proofs.Common.{get_or, subst, refl, ap, ap₂, sym, ◌∙◌, arith, append_assoc, append-nil, ◌==◌}
use Rattle.std.specs.Prelude.{if◌then◌else◌, nat_lt, slice_range}
use Rattle.std.proofs.Common.{length-drop}
use Rattle.std.proofs.lemmas.Bool.{lt-ltb, le-ltb}
use Rattle.std.proofs.lemmas.List.{drop_more, take_more, take_all, get_or-drop}
use Rattle.std.proofs.Math.ListN.{drop_of_length-le}
use Rattle.std.proofs.lemmas.Bool.{ne_eqb}
use Rattle.report_text.specs.Pieces.{Part}
use Rattle.report_text.specs.Tails.{columns, rows_from, row_parts, rows_parts, row_unless_empty}

-- the parts so far, with those of the rows that are left, are all that are wanted
pub record IsLeft (lead : List ℕ) (done : List Part) (row : List ℕ) (taken : ℕ) (bytes : List ℕ) (all : List Part) : Type 0 where
  pub is : done ++ rows_parts lead (rows_from row taken bytes) ≡ all

newline-row : (row : List ℕ) (taken : ℕ) (b : ℕ) (bs : List ℕ) → (b == 10) ≡ true
    → rows_from row taken (b ∷ bs) ≡ row ∷ rows_from [] 0 bs
unfolding rows_from
newline-row row taken b bs e = ap (λ (t : Bool). if t then row ∷ rows_from [] 0 bs
    else (if nat_lt 76 (taken + columns b) then row ∷ rows_from (b ∷ []) (columns b) bs
    else rows_from (row ++ b ∷ []) (taken + columns b) bs)) e

full-row : (row : List ℕ) (taken : ℕ) (b : ℕ) (bs : List ℕ) → (b == 10) ≡ false
    → nat_lt 76 (taken + columns b) ≡ true → rows_from row taken (b ∷ bs) ≡ row ∷ rows_from (b ∷ []) (columns b) bs
unfolding rows_from
full-row row taken b bs e f = ap₂ (λ (t u : Bool). if t then row ∷ rows_from [] 0 bs
    else (if u then row ∷ rows_from (b ∷ []) (columns b) bs
    else rows_from (row ++ b ∷ []) (taken + columns b) bs)) e f

longer-row : (row : List ℕ) (taken : ℕ) (b : ℕ) (bs : List ℕ) → (b == 10) ≡ false
    → nat_lt 76 (taken + columns b) ≡ false
    → rows_from row taken (b ∷ bs) ≡ rows_from (row ++ b ∷ []) (taken + columns b) bs
unfolding rows_from
longer-row row taken b bs e f = ap₂ (λ (t u : Bool). if t then row ∷ rows_from [] 0 bs
    else (if u then row ∷ rows_from (b ∷ []) (columns b) bs
    else rows_from (row ++ b ∷ []) (taken + columns b) bs)) e f

moved : (lead : List ℕ) (done new : List Part) (row : List ℕ) (rows : List (List ℕ)) → new ≡ done ++ row_parts lead row
    → new ++ rows_parts lead rows ≡ done ++ rows_parts lead (row ∷ rows)
moved lead done new row rows e =
    ap (λ (ps : List Part). ps ++ rows_parts lead rows) e ∙ append_assoc done (row_parts lead row) (rows_parts lead rows)

pub at-newline : (lead : List ℕ) (done new : List Part) (row : List ℕ) (taken : ℕ) (b : ℕ) (bs : List ℕ) (all : List Part)
    → IsLeft lead done row taken (b ∷ bs) all → (b == 10) ≡ true → new ≡ done ++ row_parts lead row → IsLeft lead new [] 0 bs all
at-newline lead done new row taken b bs all l e f = record {
  is = moved lead done new row (rows_from [] 0 bs) f
      ∙ ap (λ (rows : List (List ℕ)). done ++ rows_parts lead rows) (sym (newline-row row taken b bs e)) ∙ l.is;
}

pub at-full : (lead : List ℕ) (done new : List Part) (row : List ℕ) (taken : ℕ) (b : ℕ) (bs : List ℕ) (all : List Part)
    → IsLeft lead done row taken (b ∷ bs) all → (b == 10) ≡ false → 76 < taken + columns b → new ≡ done ++ row_parts lead row
    → IsLeft lead new (b ∷ []) (columns b) bs all
at-full lead done new row taken b bs all l e n f = record {
  is = moved lead done new row (rows_from (b ∷ []) (columns b) bs) f
      ∙ ap (λ (rows : List (List ℕ)). done ++ rows_parts lead rows)
      (sym (full-row row taken b bs e (lt-ltb 76 (taken + columns b) n))) ∙ l.is;
}

pub at-byte : (lead : List ℕ) (done : List Part) (row : List ℕ) (taken : ℕ) (b : ℕ) (bs : List ℕ) (all : List Part)
    → IsLeft lead done row taken (b ∷ bs) all → (b == 10) ≡ false → taken + columns b ≤ 76
    → IsLeft lead done (row ++ b ∷ []) (taken + columns b) bs all
at-byte lead done row taken b bs all l e n = record {
  is = ap (λ (rows : List (List ℕ)). done ++ rows_parts lead rows)
      (sym (longer-row row taken b bs e (le-ltb 76 (taken + columns b) n))) ∙ l.is;
}

last-row : (row : List ℕ) (taken : ℕ) → rows_from row taken [] ≡ row_unless_empty row
unfolding rows_from
last-row row taken = refl

-- at the end, with a row that is begun or none
pub at-end : (lead : List ℕ) (done : List Part) (taken : ℕ) (all : List Part) → IsLeft lead done [] taken [] all → done ≡ all
at-end lead done taken all l =
    sym (append-nil done)
    ∙ ap (λ (rows : List (List ℕ)). done ++ rows_parts lead rows) (sym (last-row [] taken)) ∙ l.is

pub at-last : (lead : List ℕ) (done new : List Part) (b : ℕ) (row : List ℕ) (taken : ℕ) (all : List Part)
    → IsLeft lead done (b ∷ row) taken [] all → new ≡ done ++ row_parts lead (b ∷ row) → new ≡ all
at-last lead done new b row taken all l e =
    e ∙ ap (λ (rows : List (List ℕ)). done ++ rows_parts lead rows) (sym (last-row (b ∷ row) taken)) ∙ l.is

-- ---- the row that is begun is a range of the bytes

pub none-begun : (bytes : List ℕ) (i : ℕ) → slice_range bytes i i ≡ []
none-begun bytes i = ap (λ (n : ℕ). take n (drop i bytes)) (let z : i - i ≡ 0 = omega arith in z)

pub one-begun : (bytes : List ℕ) (i : ℕ) (d : ℕ) → i < length bytes
    → slice_range bytes i (i + 1) ≡ get_or bytes i d ∷ []
one-begun bytes i d h =
    ap₂ (λ (n : ℕ) (xs : List ℕ). take n xs) (let z : i + 1 - i ≡ 1 = omega arith in z) (drop_more bytes i d h)

pub begun-more : (bytes : List ℕ) (from i : ℕ) (d : ℕ) → from ≤ i → i < length bytes
    → slice_range bytes from (i + 1) ≡ slice_range bytes from i ++ get_or bytes i d ∷ []
begun-more bytes from i d f h =
    ap (λ (n : ℕ). take n (drop from bytes)) (let z : i + 1 - from ≡ (i - from) + 1 = omega (arith, f) in z)
    ∙ take_more (drop from bytes) (i - from) d (omega (arith, length-drop from bytes, f, h))
    ∙ ap (λ (b : ℕ). slice_range bytes from i ++ b ∷ []) (get_or-drop from bytes (i - from) d
    ∙ ap (λ (k : ℕ). get_or bytes k d) (let z : from + (i - from) ≡ i = omega (arith, f) in z))

-- ---- one byte more, and the end

here : (lead : List ℕ) (done : List Part) (bs : List ℕ) (from i taken d : ℕ) (all : List Part) → i < length bs
    → IsLeft lead done (slice_range bs from i) taken (drop i bs) all
    → IsLeft lead done (slice_range bs from i) taken (get_or bs i d ∷ drop (i + 1) bs) all
here lead done bs from i taken d all h l =
    subst (λ (xs : List ℕ). IsLeft lead done (slice_range bs from i) taken xs all) (drop_more bs i d h) l

begins : (lead : List ℕ) (done : List Part) (row begun : List ℕ) (taken filled : ℕ) (bytes : List ℕ) (all : List Part)
    → begun ≡ row → filled ≡ taken → IsLeft lead done row taken bytes all → IsLeft lead done begun filled bytes all
begins lead done row begun taken filled bytes all e f l = record {
  is = ap₂ (λ (r : List ℕ) (t : ℕ). done ++ rows_parts lead (rows_from r t bytes)) e f ∙ l.is;
}

pub newline-step : (lead : List ℕ) (done new : List Part) (bs : List ℕ) (from i taken d begun filled : ℕ) (all : List Part)
    → i < length bs → IsLeft lead done (slice_range bs from i) taken (drop i bs) all → get_or bs i d ≡ 10
    → new ≡ done ++ row_parts lead (slice_range bs from i) → begun ≡ i + 1 → filled ≡ 0
    → IsLeft lead new (slice_range bs begun (i + 1)) filled (drop (i + 1) bs) all
newline-step lead done new bs from i taken d begun filled all h l e f eb ef =
    begins lead new [] (slice_range bs begun (i + 1)) 0 filled (drop (i + 1) bs) all
    (ap (λ (k : ℕ). slice_range bs k (i + 1)) eb ∙ none-begun bs (i + 1)) ef
    (at-newline lead done new (slice_range bs from i) taken (get_or bs i d) (drop (i + 1) bs) all
    (here lead done bs from i taken d all h l) (ap (λ (b : ℕ). b == 10) e) f)

pub full-step : (lead : List ℕ) (done new : List Part) (bs : List ℕ) (from i taken d next begun filled : ℕ) (all : List Part)
    → i < length bs → IsLeft lead done (slice_range bs from i) taken (drop i bs) all → (get_or bs i d ≡ 10 → ⊥)
    → next ≡ columns (get_or bs i d) → 76 < taken + next
    → new ≡ done ++ row_parts lead (slice_range bs from i) → begun ≡ i → filled ≡ next
    → IsLeft lead new (slice_range bs begun (i + 1)) filled (drop (i + 1) bs) all
full-step lead done new bs from i taken d next begun filled all h l other e full f eb ef =
    begins lead new (get_or bs i d ∷ []) (slice_range bs begun (i + 1)) (columns (get_or bs i d)) filled
    (drop (i + 1) bs) all (ap (λ (k : ℕ). slice_range bs k (i + 1)) eb ∙ one-begun bs i d h) (ef ∙ e)
    (at-full lead done new (slice_range bs from i) taken (get_or bs i d) (drop (i + 1) bs) all
    (here lead done bs from i taken d all h l) (ne_eqb (get_or bs i d) 10 other)
    (subst (λ (k : ℕ). 76 < taken + k) e full) f)

pub byte-step : (lead : List ℕ) (done new : List Part) (bs : List ℕ) (from i taken d next begun filled : ℕ) (all : List Part)
    → i < length bs → from ≤ i → IsLeft lead done (slice_range bs from i) taken (drop i bs) all
    → (get_or bs i d ≡ 10 → ⊥) → next ≡ columns (get_or bs i d) → taken + next ≤ 76 → new ≡ done → begun ≡ from
    → filled ≡ taken + next → IsLeft lead new (slice_range bs begun (i + 1)) filled (drop (i + 1) bs) all
byte-step lead done new bs from i taken d next begun filled all h p l other e room f eb ef =
    begins lead new (slice_range bs from i ++ get_or bs i d ∷ []) (slice_range bs begun (i + 1))
    (taken + columns (get_or bs i d)) filled (drop (i + 1) bs) all
    (ap (λ (k : ℕ). slice_range bs k (i + 1)) eb ∙ begun-more bs from i d p h)
    (ef ∙ ap (λ (k : ℕ). taken + k) e)
    (at-byte lead new (slice_range bs from i) taken (get_or bs i d) (drop (i + 1) bs) all
    (here lead new bs from i taken d all h
    (subst (λ (ps : List Part). IsLeft lead ps (slice_range bs from i) taken (drop i bs) all) (sym f) l))
    (ne_eqb (get_or bs i d) 10 other) (subst (λ (k : ℕ). taken + k ≤ 76) e room))

pub last-step : (lead : List ℕ) (done new : List Part) (bs : List ℕ) (from i taken d : ℕ) (all : List Part) → length bs ≤ i
    → from < length bs → IsLeft lead done (slice_range bs from i) taken (drop i bs) all
    → new ≡ done ++ row_parts lead (slice_range bs from (length bs)) → new ≡ all
last-step lead done new bs from i taken d all past h l e =
    let row : slice_range bs from i ≡ get_or bs from d ∷ drop (from + 1) bs =
    take_all (i - from) (drop from bs) (omega (arith, length-drop from bs, past)) ∙ drop_more bs from d h in
    let left : IsLeft lead done (get_or bs from d ∷ drop (from + 1) bs) taken [] all = record {
      is = sym (ap₂ (λ (r xs : List ℕ). done ++ rows_parts lead (rows_from r taken xs)) row (drop_of_length-le bs past))
          ∙ l.is;
    } in
    at-last lead done new (get_or bs from d) (drop (from + 1) bs) taken all left
    (e ∙ ap (λ (r : List ℕ). done ++ row_parts lead r)
    (take_all (length bs - from) (drop from bs) (omega (arith, length-drop from bs)) ∙ drop_more bs from d h))

pub end-step : (lead : List ℕ) (done : List Part) (bs : List ℕ) (from i taken : ℕ) (all : List Part) → length bs ≤ i → length bs ≤ from
    → IsLeft lead done (slice_range bs from i) taken (drop i bs) all → done ≡ all
end-step lead done bs from i taken all past none l =
    let row : slice_range bs from i ≡ [] =
    ap (λ (xs : List ℕ). take (i - from) xs) (drop_of_length-le bs none) ∙ take_all (i - from) [] (omega arith) in
    let left : IsLeft lead done [] taken [] all = record {
      is = sym (ap₂ (λ (r xs : List ℕ). done ++ rows_parts lead (rows_from r taken xs)) row (drop_of_length-le bs past))
          ∙ l.is;
    } in
    at-end lead done taken all left
