-- Whether a header or a ring ends in the second half of a size: at one place more, and at none past the size.
-- For `has_end_in_half`.
use Rattle.std.proofs.Common.{◌≡◌, ◌∙◌, ℕ, zero, suc, ◌+◌, ◌<◌, ◌≤◌, Bool, true, false, cond, List, [], ◌∷◌}
use Rattle.std.proofs.Common.{◌++◌, refl, ap, ap₂, arith, append-nil}
use Rattle.std.specs.Prelude.{◌||◌, ◌==◌, nat_le}
use Rattle.std.specs.List.{range_with_len, flat_map, list_any}
use Rattle.std.proofs.lemmas.Grind.{flat_map-append}
use Rattle.std.proofs.lemmas.List.Folds.{list_any-append}
use Rattle.list_laws.proofs.Ranges.{range_with_len-add}
use Rattle.zone_spec.specs.declared.params.ByteOrder.{ByteOrder}
use Rattle.zone_spec.specs.declared.params.ByteOrder.TheVariants.{Little, Big}
use Rattle.zone_spec.specs.Numbers.{header_len, start_at, size_at, plain_sig}
use Rattle.layout_spec.specs.Marks.{is_mark}
use Rattle.memory_spec.specs.Rings.{word_at, header_end, ring_end, ends_in, ends_at}
use Rattle.memory_spec.specs.Sizes.{ends_in_half}

ends_more : (f : ℕ → List ℕ) (n : ℕ)
    → flat_map f (range_with_len 0 (n + 1)) ≡ flat_map f (range_with_len 0 n) ++ f n
ends_more f n =
    ap (λ (l : List ℕ). flat_map f l) (range_with_len-add 0 n 1)
    ∙ flat_map-append f (range_with_len 0 n) (range_with_len (0 + n) 1)
    ∙ ap (λ (m : ℕ). flat_map f (range_with_len 0 n) ++ (f m ++ [])) (let e : 0 + n ≡ n = omega arith in e)
    ∙ ap (λ (xs : List ℕ). flat_map f (range_with_len 0 n) ++ xs) (append-nil (f n))

any_more : (p : ℕ → Bool) (f : ℕ → List ℕ) (n : ℕ)
    → list_any p (flat_map f (range_with_len 0 (n + 1)))
    ≡ (list_any p (flat_map f (range_with_len 0 n)) || list_any p (f n))
any_more p f n =
    ap (λ (xs : List ℕ). list_any p xs) (ends_more f n) ∙ list_any-append p (flat_map f (range_with_len 0 n)) (f n)

-- one place more at which none ends there
pub none_more : (p : ℕ → Bool) (f : ℕ → List ℕ) (n : ℕ) → list_any p (flat_map f (range_with_len 0 n)) ≡ false
    → list_any p (f n) ≡ false → list_any p (flat_map f (range_with_len 0 (n + 1))) ≡ false
none_more p f n so_far none = any_more p f n ∙ ap₂ (λ (a b : Bool). a || b) so_far none

-- none at the places after these
pub none_after : (p : ℕ → Bool) (f : ℕ → List ℕ) (n k : ℕ) → list_any p (flat_map f (range_with_len 0 n)) ≡ false
    → ((i : ℕ) → n ≤ i → i < n + k → list_any p (f i) ≡ false)
    → list_any p (flat_map f (range_with_len 0 (n + k))) ≡ false
none_after p f n zero so_far none =
    ap (λ (m : ℕ). list_any p (flat_map f (range_with_len 0 m))) (let e : n + 0 ≡ n = omega arith in e) ∙ so_far
none_after p f n (suc k) so_far none =
    ap (λ (m : ℕ). list_any p (flat_map f (range_with_len 0 m))) (let e : n + suc k ≡ n + k + 1 = omega arith in e)
    ∙ none_more p f (n + k) (none_after p f n k so_far (λ i low high. none i low (omega (arith, high))))
    (none (n + k) (omega arith) (omega arith))

or_true : (b : Bool) → (b || true) ≡ true
or_true true = refl
or_true false = refl

-- one that ends there settles it
pub one_ends : (p : ℕ → Bool) (f : ℕ → List ℕ) (n k : ℕ) → list_any p (f n) ≡ true
    → list_any p (flat_map f (range_with_len 0 (n + 1 + k))) ≡ true
one_ends p f n zero one =
    ap (λ (m : ℕ). list_any p (flat_map f (range_with_len 0 m))) (let e : n + 1 + 0 ≡ n + 1 = omega arith in e)
    ∙ any_more p f n
    ∙ ap (λ (b : Bool). list_any p (flat_map f (range_with_len 0 n)) || b) one
    ∙ or_true (list_any p (flat_map f (range_with_len 0 n)))
one_ends p f n (suc k) one =
    ap (λ (m : ℕ). list_any p (flat_map f (range_with_len 0 m))) (let e : n + 1 + suc k ≡ n + 1 + k + 1 = omega arith in e)
    ∙ any_more p f (n + 1 + k)
    ∙ ap (λ (b : Bool). b || list_any p (f (n + 1 + k))) (one_ends p f n k one)

-- what ends past a size does not end in its second half
past_half : (size end : ℕ) → size < end → ends_in_half size end ≡ false
past_half size end h = search (arith, h)

none_there : (b : Bool) (size end : ℕ) → size < end
    → list_any (ends_in_half size) (cond b (end ∷ []) []) ≡ false
none_there true size end h = ap (λ (c : Bool). c || false) (past_half size end h)
none_there false size end h = refl

none_in : (order : ByteOrder) (bytes : List ℕ) (at size : ℕ) → size ≤ at + 1
    → list_any (ends_in_half size) (ends_in order bytes at) ≡ false
none_in order bytes at size past =
    list_any-append (ends_in_half size) (header_end order bytes at) (ring_end order bytes at)
    ∙ ap₂ (λ (a b : Bool). a || b)
    (none_there (word_at order bytes at == plain_sig) size (at + header_len) (omega (arith, past)))
    (none_there (nat_le (word_at order bytes (at + start_at)) (word_at order bytes (at + size_at))) size
    (at + header_len + word_at order bytes (at + size_at)) (omega (arith, past)))

none_if : (b : Bool) (p : ℕ → Bool) (xs : List ℕ) → list_any p xs ≡ false → list_any p (cond b xs []) ≡ false
none_if true p xs none = none
none_if false p xs none = refl

-- no header past a size ends within it, nor does its ring
pub none_ends : (bytes : List ℕ) (at size : ℕ) → size ≤ at + 1
    → list_any (ends_in_half size) (ends_at bytes at) ≡ false
none_ends bytes at size past =
    none_if (is_mark bytes at) (ends_in_half size) (ends_in Little bytes at ++ ends_in Big bytes at)
    (list_any-append (ends_in_half size) (ends_in Little bytes at) (ends_in Big bytes at)
    ∙ ap₂ (λ (a b : Bool). a || b) (none_in Little bytes at size past) (none_in Big bytes at size past))
