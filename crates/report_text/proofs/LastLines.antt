-- The last lines of bytes, found from their end on
use Rattle.std.proofs.Common.{◌≡◌, ℕ, zero, suc, ◌+◌, ◌-◌, ◌<◌, ◌≤◌, Bool, true, false, ◌&&◌, not, List, [], ◌∷◌}
use Rattle.std.proofs.Common.{length, drop, get_or, refl, ap, sym, ◌∙◌, arith, ◌==◌}
use Rattle.std.specs.Prelude.{if◌then◌else◌}
use Rattle.std.proofs.lemmas.Bool.{lt-ltb, le-ltb, ne_eqb}
use Rattle.std.proofs.lemmas.List.{drop_more}
use Rattle.std.proofs.Math.Seq.{drop-length}
use Rattle.std.proofs.Common.{length-drop}
use Rattle.report_text.specs.Tails.{is_empty, breaks, last_lines, tail_place}

few-lines : (most : ℕ) (bs : List ℕ) → breaks bs < most → last_lines most bs ≡ bs
unfolding last_lines
few-lines most [] h = refl
few-lines most (b ∷ bs) h =
    ap (λ (t : Bool). if t then b ∷ bs else last_lines most bs) (lt-ltb (breaks (b ∷ bs)) most h)

-- no lines at all
pub no-lines : (bs : List ℕ) → [] ≡ last_lines 0 bs
unfolding last_lines
no-lines [] = refl
no-lines (b ∷ bs) =
    no-lines bs
    ∙ sym (ap (λ (t : Bool). if t then b ∷ bs else last_lines 0 bs) (le-ltb (breaks (b ∷ bs)) 0 (omega arith)))

breaks-drop : (k : ℕ) (bs : List ℕ) → breaks (drop k bs) ≤ breaks bs
unfolding breaks
breaks-drop zero bs = omega arith
breaks-drop (suc k) [] = omega arith
breaks-drop (suc k) (b ∷ bs) = omega (arith, breaks-drop k bs)

-- an end that has fewer breaks than wanted, where the byte before it makes the last one
pub last-from : (most k : ℕ) (bs : List ℕ) → breaks (drop (suc k) bs) < most → most ≤ breaks (drop k bs)
    → drop (suc k) bs ≡ last_lines most bs
unfolding last_lines breaks
last-from most zero [] few many = refl
last-from most (suc k) [] few many = refl
last-from most zero (b ∷ bs) few many =
    sym (ap (λ (t : Bool). if t then b ∷ bs else last_lines most bs) (le-ltb (breaks (b ∷ bs)) most many)
    ∙ few-lines most bs few)
last-from most (suc k) (b ∷ bs) few many =
    let all : most ≤ breaks (b ∷ bs) = omega (arith, many, breaks-drop (suc k) (b ∷ bs)) in
    last-from most k bs few many
    ∙ sym (ap (λ (t : Bool). if t then b ∷ bs else last_lines most bs) (le-ltb (breaks (b ∷ bs)) most all))

pub last-all : (most : ℕ) (bs : List ℕ) → breaks bs < most → bs ≡ last_lines most bs
last-all most bs few = sym (few-lines most bs few)

empty-drop : (k : ℕ) (bs : List ℕ) → k < length bs → is_empty (drop k bs) ≡ false
empty-drop zero [] h = absurd (omega (arith, h))
empty-drop zero (b ∷ bs) h = refl
empty-drop (suc k) [] h = absurd (omega (arith, h))
empty-drop (suc k) (b ∷ bs) h = empty-drop k bs (omega (arith, h))

empty-end : (k : ℕ) (bs : List ℕ) → length bs ≤ k → is_empty (drop k bs) ≡ true
empty-end zero [] h = refl
empty-end zero (b ∷ bs) h = absurd (omega (arith, h))
empty-end (suc k) [] h = refl
empty-end (suc k) (b ∷ bs) h = empty-end k bs (omega (arith, h))

one-more : (b : ℕ) (bs : List ℕ) → breaks (b ∷ bs) ≡ (if (b == 10) && not (is_empty bs) then 1 else 0) + breaks bs
unfolding breaks
one-more b bs = refl

-- a newline with a byte after it
pub break-here : (bs : List ℕ) (i : ℕ) (d : ℕ) → i + 1 < length bs → get_or bs i d ≡ 10
    → breaks (drop i bs) ≡ 1 + breaks (drop (i + 1) bs)
break-here bs i d h e =
    ap breaks (drop_more bs i d (omega (arith, h))) ∙ one-more (get_or bs i d) (drop (i + 1) bs)
    ∙ ap (λ (b : ℕ). (if (b == 10) && not (is_empty (drop (i + 1) bs)) then 1 else 0) + breaks (drop (i + 1) bs)) e
    ∙ ap (λ (t : Bool). (if not t then 1 else 0) + breaks (drop (i + 1) bs)) (empty-drop (i + 1) bs h)

none-more : (n : ℕ) → 0 + n ≡ n
none-more n = omega arith

and-none : (a : Bool) → a && false ≡ false
and-none true = refl
and-none false = refl

-- the last byte
pub none-last : (bs : List ℕ) (i : ℕ) (d : ℕ) → i < length bs → length bs ≤ i + 1
    → breaks (drop i bs) ≡ breaks (drop (i + 1) bs)
none-last bs i d h e =
    ap breaks (drop_more bs i d h) ∙ one-more (get_or bs i d) (drop (i + 1) bs)
    ∙ ap (λ (t : Bool). (if (get_or bs i d == 10) && not t then 1 else 0) + breaks (drop (i + 1) bs))
    (empty-end (i + 1) bs e)
    ∙ ap (λ (t : Bool). (if t then 1 else 0) + breaks (drop (i + 1) bs)) (and-none (get_or bs i d == 10))
    ∙ none-more (breaks (drop (i + 1) bs))

-- another byte than a newline
pub none-here : (bs : List ℕ) (i : ℕ) (d : ℕ) → i < length bs → (get_or bs i d == 10) ≡ false
    → breaks (drop i bs) ≡ breaks (drop (i + 1) bs)
none-here bs i d h e =
    ap breaks (drop_more bs i d h) ∙ one-more (get_or bs i d) (drop (i + 1) bs)
    ∙ ap (λ (t : Bool). (if t && not (is_empty (drop (i + 1) bs)) then 1 else 0) + breaks (drop (i + 1) bs)) e
    ∙ none-more (breaks (drop (i + 1) bs))

-- ---- one place further to the front

pub none-behind : (bs : List ℕ) → 0 ≡ breaks (drop (length bs) bs)
unfolding breaks
none-behind bs = ap breaks (sym (drop-length bs))

behind : (bs : List ℕ) (i : ℕ) → 0 < i → breaks (drop (i - 1 + 1) bs) ≡ breaks (drop i bs)
behind bs i h = ap (λ (k : ℕ). breaks (drop k bs)) (let back : i - 1 + 1 ≡ i = omega (arith, h) in back)

-- the first of the wanted lines begins after this newline
pub first-wanted : (most : ℕ) (bs : List ℕ) (i lines d : ℕ) → 0 < i → lines ≡ breaks (drop i bs) → lines < most
    → lines + 1 ≡ most → i - 1 + 1 < length bs → get_or bs (i - 1) d ≡ 10
    → drop (i - 1 + 1) bs ≡ last_lines most bs
first-wanted most bs i lines d h e few all within is =
    let here = break-here bs (i - 1) d within is in
    let next = behind bs i h in
    let same : i - 1 + 1 ≡ suc (i - 1) = omega arith in
    let start : breaks (drop (suc (i - 1)) bs) ≡ breaks (drop (i - 1 + 1) bs) =
    ap (λ (k : ℕ). breaks (drop k bs)) (sym same) in
    ap (λ (k : ℕ). drop k bs) same
    ∙ last-from most (i - 1) bs (omega (arith, start, next, e, few)) (omega (arith, here, next, e, all))

pub line-more : (bs : List ℕ) (i lines d : ℕ) → 0 < i → lines ≡ breaks (drop i bs) → i - 1 + 1 < length bs
    → get_or bs (i - 1) d ≡ 10 → lines + 1 ≡ breaks (drop (i - 1) bs)
line-more bs i lines d h e within is =
    let here = break-here bs (i - 1) d within is in
    let next = behind bs i h in
    omega (arith, here, next, e)

pub no-line : (bs : List ℕ) (i lines d : ℕ) → 0 < i → i ≤ length bs → lines ≡ breaks (drop i bs)
    → (get_or bs (i - 1) d ≡ 10 → ⊥) → lines ≡ breaks (drop (i - 1) bs)
no-line bs i lines d h within e other =
    let here = none-here bs (i - 1) d (omega (arith, h, within)) (ne_eqb (get_or bs (i - 1) d) 10 other) in
    let next = behind bs i h in
    omega (arith, here, next, e)

pub no-line-at-end : (bs : List ℕ) (i lines d : ℕ) → 0 < i → i ≤ length bs → lines ≡ breaks (drop i bs)
    → length bs ≤ i - 1 + 1 → lines ≡ breaks (drop (i - 1) bs)
no-line-at-end bs i lines d h within e last =
    let here = none-last bs (i - 1) d (omega (arith, h, within)) last in
    let next = behind bs i h in
    omega (arith, here, next, e)

-- no place is left, with fewer lines than wanted
pub whole-last : (most : ℕ) (bs : List ℕ) (i lines : ℕ) → i ≤ 0 → lines ≡ breaks (drop i bs) → lines < most
    → bs ≡ last_lines most bs
whole-last most bs i lines h e few =
    let front : i ≡ 0 = omega (arith, h) in
    let same : breaks (drop i bs) ≡ breaks bs = ap (λ (k : ℕ). breaks (drop k bs)) front in
    last-all most bs (omega (arith, e, same, few))

-- the place at which the last lines begin
pub tail-at : (most : ℕ) (bs : List ℕ) (start : ℕ) → start ≤ length bs → drop start bs ≡ last_lines most bs
    → start ≡ tail_place most bs
tail-at most bs start within last =
    let long : length (drop start bs) ≡ length (last_lines most bs) = ap length last in
    omega (arith, length-drop start bs, long, within)
