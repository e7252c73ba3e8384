-- The level of digits, one after the other
use Rattle.std.proofs.Common.{◌≡◌, ℕ, ◌+◌, ◌-◌, ◌*◌, ◌%◌, ◌≤◌, ◌<◌, List, length, drop, get_or, ap}
use Rattle.std.proofs.lemmas.List.{drop_all, drop_more}
use Rattle.death_spec.specs.Lines.{digits_level}

pub digit_more : (digits : List ℕ) (at n : ℕ) → at < length digits
    → digits_level n (drop at digits)
    ≡ digits_level ((10 * n + (get_or digits at 0 - 48)) % 8) (drop (at + 1) digits)
unfolding digits_level
digit_more digits at n inside = ap (digits_level n) (drop_more digits at 0 inside)

pub digits_past : (digits : List ℕ) (at n : ℕ) → length digits ≤ at → digits_level n (drop at digits) ≡ n
unfolding digits_level
digits_past digits at n h = ap (digits_level n) (drop_all at digits h)
