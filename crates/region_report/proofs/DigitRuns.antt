-- The number that digits spell, one after the other
use Rattle.std.proofs.Common.{◌≡◌, ℕ, ◌+◌, ◌≤◌, ◌<◌, true, false, cond, List, length, drop, get_or, ap, ◌∙◌}
use Rattle.std.proofs.lemmas.List.{drop_all, drop_more}
use Rattle.report_spec.specs.Facts.{is_digit, with_digit, seconds_from}

pub digit_more : (bytes : List ℕ) (at n : ℕ) → at < length bytes → is_digit (get_or bytes at 0) ≡ true
    → seconds_from n (drop at bytes) ≡ seconds_from (with_digit n (get_or bytes at 0)) (drop (at + 1) bytes)
unfolding seconds_from
digit_more bytes at n inside e =
    ap (seconds_from n) (drop_more bytes at 0 inside)
    ∙ ap (λ t. cond t (seconds_from (with_digit n (get_or bytes at 0)) (drop (at + 1) bytes)) n) e

pub no_digit : (bytes : List ℕ) (at n : ℕ) → at < length bytes → is_digit (get_or bytes at 0) ≡ false
    → seconds_from n (drop at bytes) ≡ n
unfolding seconds_from
no_digit bytes at n inside e =
    ap (seconds_from n) (drop_more bytes at 0 inside)
    ∙ ap (λ t. cond t (seconds_from (with_digit n (get_or bytes at 0)) (drop (at + 1) bytes)) n) e

pub digits_past : (bytes : List ℕ) (at n : ℕ) → length bytes ≤ at → seconds_from n (drop at bytes) ≡ n
unfolding seconds_from
digits_past bytes at n h = ap (seconds_from n) (drop_all at bytes h)
