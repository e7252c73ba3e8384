-- Bytes that agree one by one, the digits of a stamp, and the first lines of a text by their keys. For `same_lines`.
use Rattle.std.proofs.Common.{◌≡◌, ℕ, suc, ◌+◌, ◌-◌, ◌≤◌, ◌<◌, ◌&&◌, true, Bool, List, length, drop, get_or, ap}
use Rattle.std.proofs.Common.{arith}
use Rattle.std.proofs.lemmas.List.{drop_all, drop_more}
use Rattle.std.specs.List.{list_all, range_with_len}
use Rattle.report_spec.specs.Mending.{digits_from, number_and}

pub all-first : (f : ℕ → Bool) (k n : ℕ) → k < n
    → list_all f (range_with_len k (n - k)) ≡ (f k && list_all f (range_with_len (k + 1) (n - (k + 1))))
all-first f k n inside =
    ap (λ (m : ℕ). list_all f (range_with_len k m)) (let e : n - k ≡ suc (n - (k + 1)) = omega (arith, inside) in e)

pub all-none : (f : ℕ → Bool) (k n : ℕ) → n ≤ k → list_all f (range_with_len k (n - k)) ≡ true
all-none f k n past =
    ap (λ (m : ℕ). list_all f (range_with_len k m)) (let e : n - k ≡ 0 = omega (arith, past) in e)

pub digits-more : (bytes : List ℕ) (at n : ℕ) → at < length bytes
    → digits_from n (drop at bytes) ≡ digits_from (number_and n (get_or bytes at 0)) (drop (at + 1) bytes)
unfolding digits_from
digits-more bytes at n inside = ap (digits_from n) (drop_more bytes at 0 inside)

pub digits-past : (bytes : List ℕ) (at n : ℕ) → length bytes ≤ at → digits_from n (drop at bytes) ≡ n
unfolding digits_from
digits-past bytes at n past = ap (digits_from n) (drop_all at bytes past)
