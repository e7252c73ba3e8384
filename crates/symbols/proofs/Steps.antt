-- One byte after the other
use Rattle.std.proofs.Common.{◌≡◌, ℕ, ◌+◌, ◌*◌, ◌%◌, ◌^◌, ◌<◌, ◌≤◌, ◌==◌, Bool, List, [], ◌∷◌, ◌++◌, length, drop}
use Rattle.std.proofs.Common.{get_or, refl, ap, sym, suc, ◌∙◌, add-one, drop-cons}
use Rattle.std.proofs.lemmas.List.{drop_all}
use Rattle.symbol_spec.specs.Maps.{digit_value, number_after, symbol_if, symbols_from}

pub number_more : (n at : ℕ) (digits : List ℕ) → at < length digits
    → number_after n (drop at digits)
    ≡ number_after ((16 * n + digit_value (get_or digits at 0)) % 2 ^ 64) (drop (at + 1) digits)
unfolding number_after
number_more n at digits h = rw (add-one, drop-cons digits at 0) refl

pub number_end : (n at : ℕ) (digits : List ℕ) → length digits ≤ at → number_after n (drop at digits) ≡ n
unfolding number_after
number_end n at digits h = ap (number_after n) (drop_all at digits h)

pub symbols_more : (begins : Bool) (at : ℕ) (text : List ℕ) → at < length text
    → symbols_from begins at (drop at text)
    ≡ symbol_if begins at (drop at text) ++ symbols_from (get_or text at 0 == 10) (at + 1) (drop (at + 1) text)
unfolding symbols_from
symbols_more begins at text h = at_front (drop at text) (drop-cons text at 0 h) ∙ ap (λ k. symbol_if begins at (drop at text) ++ symbols_from (get_or text at 0 == 10) (at + 1) (drop k text)) (sym (add-one at))
  where
    at_front : (xs : List ℕ) → xs ≡ get_or text at 0 ∷ drop (suc at) text
        → symbols_from begins at xs
        ≡ symbol_if begins at xs ++ symbols_from (get_or text at 0 == 10) (at + 1) (drop (suc at) text)
    at_front xs e = rw e refl

pub symbols_end : (begins : Bool) (at : ℕ) (text : List ℕ) → length text ≤ at
    → symbols_from begins at (drop at text) ≡ []
unfolding symbols_from
symbols_end begins at text h = ap (symbols_from begins at) (drop_all at text h)
