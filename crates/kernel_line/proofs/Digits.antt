-- The digits of a number below 2 ^ 64, and that they are ASCII. For `parsed` and `long_digits`.
use Rattle.std.proofs.Common.{◌≡◌, ◌≢◌, ℕ, ◌^◌, ◌<◌, ◌≤◌, Bool, true, false, ◌&&◌, nat_lt, if◌then◌else◌, List, [], ◌∷◌}
use Rattle.std.proofs.Common.{length, Option, Some, None, Result, refl, ◌∙◌, arith, get_or, All, IsUtf8}
use Rattle.std.proofs.lemmas.Bool.Decides.{nat_tests}
use Rattle.std.proofs.lemmas.Bool.{and_parts, and_from, ltb-true, lt-ltb}
use Rattle.std.proofs.lemmas.Grind.{common_steps}
use Rattle.std.proofs.lemmas.List.Elements.{All-cons, All-nil}
use Rattle.std.proofs.lemmas.Str.{IsUtf8-from_ascii}
use Rattle.std.proofs.lemmas.Str.Ascii.{IsAscii-from_all}
use Rattle.std.proofs.lemmas.Str.Parse.{without_leading_plus_none}
use Rattle.std.specs.Result.{OkIff, result_ok}
use Rattle.std.specs.List.{list_all}
use Rattle.std.specs.Char.{is_digit, digit_value}
use Rattle.std.specs.Str.Parse.{IsNumeral, ParsesUnsigned, digits_value}
use Rattle.ramoops_layout.proofs.Texts.{all_digits_test, test_all_digits, by_test}
use Rattle.kernel_line.specs.Region.{long_digits}

-- what `from_str_radix` gives at a text without a leading plus
pub parsed_digits : {E : Type 0} (base : ℕ) (ds : List ℕ) (r : Result ℕ E) → get_or ds 0 0 ≢ 43
    → ParsesUnsigned 64 base ds r → result_ok r ≡ long_digits base ds
parsed_digits base ds r plain h =
    let h' : OkIff r (IsNumeral base ds × (digits_value base ds < 2 ^ 64)) (digits_value base ds) =
    rw (without_leading_plus_none ds plain) at h in
    by_test (IsNumeral base ds × (digits_value base ds < 2 ^ 64))
    (nat_lt 0 (length ds) && list_all (λ c. is_digit c base) ds && nat_lt (digits_value base ds) (2 ^ 64))
    (digits_value base ds) r
    (λ t. let ab = and_parts (nat_lt 0 (length ds) && list_all (λ c. is_digit c base) ds)
    (nat_lt (digits_value base ds) (2 ^ 64)) t in
    let a = and_parts (nat_lt 0 (length ds)) (list_all (λ c. is_digit c base) ds) ab.0 in
    ((ltb-true _ _ a.0, test_all_digits base ds a.1), ltb-true _ _ ab.1))
    (λ p. and_from _ _ (and_from _ _ (lt-ltb _ _ p.0.0) (all_digits_test base ds p.0.1)) (lt-ltb _ _ p.1)) h'

-- a digit is ASCII
digit_is_ascii : (c base : ℕ) → base ≤ 16 → digit_value c < base → c < 128
digit_is_ascii c base small h = grind (arith, nat_tests, small, h)

digits_are_ascii : (base : ℕ) (ds : List ℕ) → base ≤ 16 → list_all (λ c. is_digit c base) ds ≡ true
    → All (λ b. b < 128) ds
digits_are_ascii base [] small h = All-nil (λ b. b < 128)
digits_are_ascii base (c ∷ cs) small h =
    let both = and_parts (is_digit c base) (list_all (λ d. is_digit d base) cs) h in
    All-cons (λ b. b < 128) c cs (digit_is_ascii c base small (ltb-true _ _ both.0))
    (digits_are_ascii base cs small both.1)

-- what is no text is no number
pub no_text_no_number : (base : ℕ) (ds : List ℕ) → base ≤ 16 → ¬ (IsUtf8 ds) → long_digits base ds ≡ None
no_text_no_number base ds small not_text = by (list_all (λ c. is_digit c base) ds) refl
  where
    by : (b : Bool) → list_all (λ c. is_digit c base) ds ≡ b
        → (if nat_lt 0 (length ds) && b && nat_lt (digits_value base ds) (2 ^ 64)
        then Some (digits_value base ds) else None) ≡ None
    by true e = absurd (not_text (IsUtf8-from_ascii ds (IsAscii-from_all ds (digits_are_ascii base ds small e))))
    by false e = none (nat_lt 0 (length ds))
      where
        none : (a : Bool) → (if a && false && nat_lt (digits_value base ds) (2 ^ 64)
            then Some (digits_value base ds) else None) ≡ None
        none true = refl
        none false = refl
