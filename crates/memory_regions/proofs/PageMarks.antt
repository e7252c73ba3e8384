-- The marked pages of two pieces of a memory are those of the first and those of the second further on. For
-- `add_marked` and `marked_pages`.
use Rattle.std.proofs.Common.{◌≡◌, ◌∙◌, ℕ, zero, suc, ◌+◌, ◌*◌, ◌<◌, ◌≤◌, Bool, true, false, cond, List, [], ◌∷◌}
use Rattle.std.proofs.Common.{◌++◌, length, map, refl, sym, ap, ap₂, arith, length-append, append_assoc}
use Rattle.std.specs.Prelude.{slice_index, ◌-◌, ◌==◌, ◌&&◌, ◌||◌, nat_le}
use Rattle.std.specs.List.{range_with_len, filter}
use Rattle.std.proofs.lemmas.List.{get_or_append_left, get_or-append-add}
use Rattle.std.proofs.lemmas.List.Elements.{filter-append}
use Rattle.list_laws.proofs.Ranges.{range_with_len-add}
use Rattle.zone_spec.specs.declared.params.ByteOrder.{ByteOrder}
use Rattle.zone_spec.specs.declared.params.ByteOrder.TheVariants.{Little, Big}
use Rattle.layout_spec.specs.Marks.{flag, is_mark, is_mark_in, word_byte}
use Rattle.memory_spec.specs.Pages.{is_marked, marked, pages}

-- one page more
pub filter_more : (p : ℕ → Bool) (n : ℕ)
    → filter p (range_with_len 0 (n + 1)) ≡ filter p (range_with_len 0 n) ++ cond (p n) (n ∷ []) []
filter_more p n =
    ap (filter p) (range_with_len-add 0 n 1)
    ∙ filter-append p (range_with_len 0 n) (range_with_len (0 + n) 1)
    ∙ ap (λ m. filter p (range_with_len 0 n) ++ cond (p m) (m ∷ []) []) (let e : 0 + n ≡ n = omega arith in e)

map_append : (f : ℕ → ℕ) (xs ys : List ℕ) → map f (xs ++ ys) ≡ map f xs ++ map f ys
map_append f [] ys = refl
map_append f (x ∷ xs) ys = ap (λ zs. f x ∷ zs) (map_append f xs ys)

one_mapped : (k n : ℕ) (b : Bool) → map (λ i. k + i) (cond b (n ∷ []) []) ≡ cond b ((k + n) ∷ []) []
one_mapped k n true = refl
one_mapped k n false = refl

-- the pages of a piece, further on, and one more
pub marked_more : (p : ℕ → Bool) (k n : ℕ)
    → map (λ i. k + i) (filter p (range_with_len 0 (n + 1)))
    ≡ map (λ i. k + i) (filter p (range_with_len 0 n)) ++ cond (p n) ((k + n) ∷ []) []
marked_more p k n =
    ap (map (λ i. k + i)) (filter_more p n)
    ∙ map_append (λ i. k + i) (filter p (range_with_len 0 n)) (cond (p n) (n ∷ []) [])
    ∙ ap (λ xs. map (λ i. k + i) (filter p (range_with_len 0 n)) ++ xs) (one_mapped k n (p n))

-- the same, behind what was there
pub one_more : (p : ℕ → Bool) (k n : ℕ) (b : Bool) (old now new : List ℕ)
    → now ≡ old ++ map (λ i. k + i) (filter p (range_with_len 0 n)) → p n ≡ b → new ≡ now ++ cond b ((k + n) ∷ []) []
    → new ≡ old ++ map (λ i. k + i) (filter p (range_with_len 0 (n + 1)))
one_more p k n b old now new h e added =
    added ∙ ap₂ ◌++◌ h (ap (λ c. cond c ((k + n) ∷ []) []) (sym e))
    ∙ append_assoc old (map (λ i. k + i) (filter p (range_with_len 0 n))) (cond (p n) ((k + n) ∷ []) [])
    ∙ ap (λ xs. old ++ xs) (sym (marked_more p k n))

-- tests that agree on a row keep the same numbers of it
filter_agrees : (p q : ℕ → Bool) (a n : ℕ) → ((i : ℕ) → a ≤ i → i < a + n → p i ≡ q i)
    → filter p (range_with_len a n) ≡ filter q (range_with_len a n)
filter_agrees p q a zero same = refl
filter_agrees p q a (suc n) same =
    ap₂ (λ (b : Bool) (xs : List ℕ). cond b (a ∷ xs) xs) (same a (omega arith) (omega arith))
    (filter_agrees p q (a + 1) n (λ i low high. same i (omega arith) (omega arith)))

map_cond : (k a : ℕ) (b : Bool) (xs : List ℕ)
    → map (λ i. k + i) (cond b (a ∷ xs) xs) ≡ cond b ((k + a) ∷ map (λ i. k + i) xs) (map (λ i. k + i) xs)
map_cond k a true xs = refl
map_cond k a false xs = refl

-- a row further on
filter_shifted : (p q : ℕ → Bool) (k a n : ℕ) → ((i : ℕ) → p (k + i) ≡ q i)
    → filter p (range_with_len (k + a) n) ≡ map (λ i. k + i) (filter q (range_with_len a n))
filter_shifted p q k a zero same = refl
filter_shifted p q k a (suc n) same =
    let next : k + a + 1 ≡ k + (a + 1) = omega arith in
    ap₂ (λ (b : Bool) (xs : List ℕ). cond b ((k + a) ∷ xs) xs) (same a)
    (ap (λ m. filter p (range_with_len m n)) next ∙ filter_shifted p q k (a + 1) n same)
    ∙ sym (map_cond k a (q a) (filter q (range_with_len (a + 1) n)))

abbrev marked_by : (a b c d e f : ℕ) → Bool
marked_by a b c d e f =
    nat_le 2 (flag (a == 68) + flag (b == 66) + flag (c == 71) + flag (d == 67)) && ((e == 0) || (f == 0))

six_same : {a a' b b' c c' d d' e e' f f' : ℕ} → a ≡ a' → b ≡ b' → c ≡ c' → d ≡ d' → e ≡ e' → f ≡ f'
    → marked_by a b c d e f ≡ marked_by a' b' c' d' e' f'
six_same p q r s t u = cc

-- the same byte of a word of the first twelve bytes
word_same : (order : ByteOrder) (xs ys : List ℕ) (at to : ℕ)
    → ((i : ℕ) → i < 12 → slice_index xs (at + i) ≡ slice_index ys (to + i))
    → (a b k i : ℕ) → a ≡ at + k → b ≡ to + k → k ≤ 8 → i ≤ 3 → word_byte order xs a i ≡ word_byte order ys b i
word_same Little xs ys at to same a b k i e f early small =
    ap (slice_index xs) (let p : a + i ≡ at + (k + i) = omega (arith, e) in p)
    ∙ same (k + i) (omega (arith, early, small))
    ∙ ap (slice_index ys) (let p : to + (k + i) ≡ b + i = omega (arith, f) in p)
word_same Big xs ys at to same a b k i e f early small =
    ap (slice_index xs) (let p : a + (3 - i) ≡ at + (k + (3 - i)) = omega (arith, e) in p)
    ∙ same (k + (3 - i)) (omega (arith, early))
    ∙ ap (slice_index ys) (let p : to + (k + (3 - i)) ≡ b + (3 - i) = omega (arith, f) in p)

-- a mark of either order reads twelve bytes
in_same : (order : ByteOrder) (xs ys : List ℕ) (at to : ℕ)
    → ((i : ℕ) → i < 12 → slice_index xs (at + i) ≡ slice_index ys (to + i))
    → is_mark_in order xs at ≡ is_mark_in order ys to
unfolding is_mark_in
in_same order xs ys at to same =
    let p : at ≡ at + 0 = omega arith in
    let q : to ≡ to + 0 = omega arith in
    six_same (word_same order xs ys at to same at to 0 0 p q (omega arith) (omega arith))
    (word_same order xs ys at to same at to 0 1 p q (omega arith) (omega arith))
    (word_same order xs ys at to same at to 0 2 p q (omega arith) (omega arith))
    (word_same order xs ys at to same at to 0 3 p q (omega arith) (omega arith))
    (word_same order xs ys at to same (at + 4) (to + 4) 4 3 refl refl (omega arith) (omega arith))
    (word_same order xs ys at to same (at + 8) (to + 8) 8 3 refl refl (omega arith) (omega arith))

mark_same : (xs ys : List ℕ) (at to : ℕ) → ((i : ℕ) → i < 12 → slice_index xs (at + i) ≡ slice_index ys (to + i))
    → is_mark xs at ≡ is_mark ys to
unfolding is_mark
mark_same xs ys at to same =
    ap₂ ◌||◌ (in_same Little xs ys at to same) (in_same Big xs ys at to same)

-- the pages of a first piece of whole pages, and those behind it
front_same : (xs ys : List ℕ) (k i : ℕ) → length xs ≡ 4096 * k → i < k
    → is_marked (xs ++ ys) i ≡ is_marked xs i
front_same xs ys k i len h = mark_same (xs ++ ys) xs (4096 * i) (4096 * i)
    (λ j small. get_or_append_left xs ys 0 (4096 * i + j) (omega (arith, len, h, small)))

rest_same : (xs ys : List ℕ) (k i : ℕ) → length xs ≡ 4096 * k
    → is_marked (xs ++ ys) (k + i) ≡ is_marked ys i
rest_same xs ys k i len = mark_same (xs ++ ys) ys (4096 * (k + i)) (4096 * i)
    (λ j small. ap (slice_index (xs ++ ys)) (let e : 4096 * (k + i) + j ≡ length xs + (4096 * i + j) = omega (arith, len) in e)
    ∙ get_or-append-add xs ys (4096 * i + j) 0)

pages_add : (k n : ℕ) → pages (4096 * k + n) ≡ k + pages n
pages_add k n = omega arith

pub marked-append : (xs ys : List ℕ) (k : ℕ) → length xs ≡ 4096 * k
    → marked (xs ++ ys) ≡ marked xs ++ map (λ i. k + i) (marked ys)
unfolding marked
marked-append xs ys k len =
    let long : length (xs ++ ys) ≡ 4096 * k + length ys = length-append xs ys ∙ ap (λ n. n + length ys) len in
    let first : pages (length xs) ≡ k = ap pages len ∙ ap pages (let e : 4096 * k ≡ 4096 * k + 0 = omega arith in e)
    ∙ pages_add k 0 ∙ (let e : k + 0 ≡ k = omega arith in e) in
    ap (λ n. filter (is_marked (xs ++ ys)) (range_with_len 0 n)) (ap pages long ∙ pages_add k (length ys))
    ∙ ap (filter (is_marked (xs ++ ys))) (range_with_len-add 0 k (pages (length ys)))
    ∙ filter-append (is_marked (xs ++ ys)) (range_with_len 0 k) (range_with_len (0 + k) (pages (length ys)))
    ∙ ap₂ ◌++◌
    (filter_agrees (is_marked (xs ++ ys)) (is_marked xs) 0 k (λ i low high. front_same xs ys k i len (omega arith))
    ∙ ap (λ n. filter (is_marked xs) (range_with_len 0 n)) (sym first))
    (ap (λ n. filter (is_marked (xs ++ ys)) (range_with_len n (pages (length ys)))) (let e : 0 + k ≡ k + 0 = omega arith in e)
    ∙ filter_shifted (is_marked (xs ++ ys)) (is_marked ys) k 0 (pages (length ys)) (λ i. rest_same xs ys k i len))
