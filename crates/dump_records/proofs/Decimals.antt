-- Decimals as digits, and six digits of one
use Rattle.std.proofs.Common.{◌≡◌, ℕ, suc, ◌+◌, ◌-◌, ◌*◌, ◌<◌, ◌≤◌, ◌^◌, true, false, List, [], ◌∷◌, ◌++◌, length, take}
use Rattle.std.proofs.Common.{drop, refl, sym, ap, ◌∙◌, arith, inl, inr}
use Rattle.std.specs.Prelude.{fold, decimal}
use Rattle.std.specs.List.{prefix_len}
use Rattle.std.specs.Char.{is_ascii_digit, digit_value}
use Rattle.std.specs.Str.Parse.{AllDigits, digits_value_after}
use Rattle.std.proofs.Math.Nat.{pow-succ', pow-le-pow_right}
use Rattle.std.proofs.Math.Seq.{take-append_seam}
use Rattle.std.proofs.lemmas.Bool.Decides.{leb_tells}
use Rattle.std.proofs.lemmas.Fmt.{decimal_is_IsNumeral, length-decimal-le}
use Rattle.std.proofs.lemmas.Str.{digit_value_digit}
use Rattle.std.proofs.lemmas.Str.Parse.{digit_from_value}
use Rattle.std.proofs.lemmas.Int.Digits.{digits_value-lt}
use Rattle.std.proofs.lemmas.Bool.{le-leb, lt-ltb}
use Rattle.zone_spec.specs.TimeLines.{digits_of, number_of, six_digits}

-- a text of digits alone, and its number
pub record IsNumber (n : ℕ) (ds : List ℕ) : Type 0 where
  pub digits : AllDigits 10 ds
  pub value : number_of ds ≡ n
  pub some : 1 ≤ length ds

digit_is : (c : ℕ) → digit_value c < 10 → is_ascii_digit c ≡ true
digit_is c small = let range = digit_from_value c small in rw (le-leb 48 c range.0, le-leb c 57 range.1) refl

value_after : (n : ℕ) (ds : List ℕ) → AllDigits 10 ds → fold (λ (m d : ℕ). 10 * m + (d - 48)) n ds
    ≡ digits_value_after 10 n ds
value_after n [] all = refl
value_after n (c ∷ cs) all =
    let step : 10 * n + (c - 48) ≡ n * 10 + digit_value c =
    omega (arith, digit_value_digit c (digit_from_value c all.0)) in
    value_after (10 * n + (c - 48)) cs all.1 ∙ ap (λ (m : ℕ). digits_value_after 10 m cs) step

pub decimal-IsNumber : (n : ℕ) → n < 2 ^ 64 → IsNumber n (decimal n)
decimal-IsNumber n small = let numeral = decimal_is_IsNumeral n small in record {
  digits = numeral.0.1;
  value = value_after 0 (decimal n) numeral.0.1 ∙ numeral.1;
  some = numeral.0.0;
}

-- digits and something else: the digits at the front
pub prefix-digits : (ds : List ℕ) (c : ℕ) (rest : List ℕ) → AllDigits 10 ds → is_ascii_digit c ≡ false
    → prefix_len is_ascii_digit (ds ++ c ∷ rest) ≡ length ds
prefix-digits [] c rest all end = rw end refl
prefix-digits (d ∷ ds) c rest all end = rw (digit_is d all.0, prefix-digits ds c rest all.1 end) (omega arith)

pub digits_of-digits : (ds : List ℕ) (c : ℕ) (rest : List ℕ) → AllDigits 10 ds → is_ascii_digit c ≡ false
    → digits_of (ds ++ c ∷ rest) ≡ ds
digits_of-digits ds c rest all end = ap (λ (n : ℕ). take n (ds ++ c ∷ rest)) (prefix-digits ds c rest all end)
    ∙ take-append_seam ds (c ∷ rest)

-- six digits of a number below 1,000,000
pub record IsSix (n : ℕ) (ds : List ℕ) : Type 0 where
  pub number : IsNumber n ds
  pub six : length ds ≡ 6

-- a digit in front counts for as much as the digits behind it can say
front_counts : (a : ℕ) (ds : List ℕ) → fold (λ (m d : ℕ). 10 * m + (d - 48)) a ds ≡ a * 10 ^ length ds + number_of ds
front_counts a [] = omega arith
front_counts a (c ∷ cs) =
    front_counts (10 * a + (c - 48)) cs ∙ counted a (c - 48) (10 ^ length cs) (number_of cs)
    ∙ rw (pow-succ' 10 (length cs), ← front_counts (10 * 0 + (c - 48)) cs) refl
  where
    counted : (a d p n : ℕ) → (10 * a + d) * p + n ≡ a * (10 * p) + ((10 * 0 + d) * p + n)
    counted a d p n = grind arith

number-lt : (n : ℕ) (ds : List ℕ) → IsNumber n ds → n < 10 ^ length ds
number-lt n ds number = let lt = digits_value-lt 10 ds number.digits in
    rw (← number.value, value_after 0 ds number.digits) lt

seven : (n : ℕ) (ds : List ℕ) → n < 1000000 → IsNumber (1000000 + n) ds → length ds ≤ 7 → IsSix n (drop 1 ds)
seven n [] small number short = absurd (omega (arith, number.some))
seven n (c ∷ rest) small number short =
    let rest_lt : number_of rest < 10 ^ length rest = rw (value_after 0 rest number.digits.1)
    (digits_value-lt 10 rest number.digits.1) in
    let six = six_of (length rest) n small (number-lt (1000000 + n) (c ∷ rest) number) short in
    let whole : (10 * 0 + (c - 48)) * 10 ^ length rest + number_of rest ≡ 1000000 + n =
    sym (front_counts (10 * 0 + (c - 48)) rest) ∙ number.value in
    let whole_six : (10 * 0 + (c - 48)) * 10 ^ 6 + number_of rest ≡ 1000000 + n = rw six at whole in
    let rest_six : number_of rest < 10 ^ 6 = rw six at rest_lt in
    record {
      number = record {
        digits = number.digits.1;
        value = omega (arith, whole_six, rest_six, small);
        some = omega (arith, six);
      };
      six = six;
    }
  where
    six_of : (k n : ℕ) → n < 1000000 → 1000000 + n < 10 ^ suc k → suc k ≤ 7 → k ≡ 6
    six_of k n small fits short = elim (leb_tells 6 k) [
      | inl long ↦ omega (arith, long.1, short)
      | inr less ↦ absurd (omega (
        arith,
        fits,
        pow-le-pow_right {n = 10} (omega arith) {i = suc k} {j = 6}
            (omega (arith, less.1)),
      ))
    ]

pub six_digits-IsSix : (n : ℕ) → n < 1000000 → IsSix n (six_digits n)
six_digits-IsSix n small = rw (lt-ltb n 1000000 small)
    (seven n (decimal (1000000 + n)) small (decimal-IsNumber (1000000 + n) (omega arith))
    (length-decimal-le 7 (1000000 + n) (omega arith) (omega arith) (omega arith)))

pub secs-short : (n : ℕ) → n < 2 ^ 63 → length (decimal n) ≤ 19
secs-short n small = length-decimal-le 19 n (omega arith) (omega (arith, small)) (omega (arith, small))

pub micros-short : (n : ℕ) → n < 1000000 → length (decimal (1000000 + n)) ≤ 7
micros-short n small = length-decimal-le 7 (1000000 + n) (omega arith) (omega (arith, small)) (omega (arith, small))
