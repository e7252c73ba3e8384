-- Texts: what stands behind a front, and the digits of a number
use Rattle.std.proofs.Common.{◌≡◌, ◌≢◌, ℕ, suc, ◌+◌, ◌^◌, ◌<◌, ◌≤◌, ◌==◌, Bool, true, false, ◌&&◌, ◌||◌, not, nat_lt}
use Rattle.std.proofs.Common.{if◌then◌else◌, List, [], ◌∷◌, length, drop, codes, length-drop, Option, Some, None}
use Rattle.std.proofs.Common.{Result, Ok, Err, MatchOption, refl, sym, ap, ◌∙◌, arith, Bor, get_or}
use Rattle.std.specs.Bool.{Decides}
use Rattle.std.specs.Option.{option_copied, option_or}
use Rattle.std.specs.Result.{OkIff, result_ok}
use Rattle.std.specs.List.{list_any, list_all, position_or_len}
use Rattle.std.specs.Char.{is_digit}
use Rattle.std.specs.Str.Parse.{AllDigits, IsNumeral, ParsesUnsigned, digits_value}
use Rattle.std.specs.Str.Pattern.{FindsTextPrefix, StripsPrefix}
use Rattle.std.proofs.lemmas.Str.Pattern.{starts_text}
use Rattle.std.proofs.lemmas.Str.Parse.{without_leading_plus_none}
use Rattle.std.proofs.lemmas.Bool.{and_parts, and_from, and_right, eqb-true, eqb-false, ltb-true, and_left, lt-ltb}
use Rattle.std.proofs.lemmas.Bool.{le-ltb}
use Rattle.std.proofs.lemmas.Bool.Decides.{nat_tests}
use Rattle.grammar_spec.specs.Numbers.{number_of, digits_number, begins}

-- what `strip_prefix` gives at a text
pub behind_front : (n s : List ℕ) (r : Option (Bor (List ℕ)))
    → MatchOption r (FindsTextPrefix n s None) (λ x. StripsPrefix (FindsTextPrefix n) s x.now)
    → option_copied r ≡ (if begins n s then Some (drop (length n) s) else None)
behind_front n s None h = rw (← starts_text false n s h) refl
behind_front n s (Some x) (k, found, rest, len) = rw (← starts_text true n s (k, found, rw found.0 found.2))
    (ap Some (rw (← found.0) rest))

-- a digit's test, over a text
pub all_digits_test : (base : ℕ) (ds : List ℕ) → AllDigits base ds → list_all (λ c. is_digit c base) ds ≡ true
all_digits_test base [] h = refl
all_digits_test base (c ∷ cs) h = and_from _ _ (grind (arith, nat_tests)) (all_digits_test base cs h.1)

pub test_all_digits : (base : ℕ) (ds : List ℕ) → list_all (λ c. is_digit c base) ds ≡ true → AllDigits base ds
test_all_digits base [] h = tt
test_all_digits base (c ∷ cs) h =
    let both = and_parts (is_digit c base) (list_all (λ d. is_digit d base) cs) h in
    (ltb-true _ _ both.0, test_all_digits base cs both.1)

-- an answer by a test is one by the fact that it decides
pub by_test : {E : Type 0} (P : Type 0) (b : Bool) (v : ℕ) (r : Result ℕ E) → (b ≡ true → P) → (P → b ≡ true)
    → OkIff r P v → result_ok r ≡ (if b then Some v else None)
by_test P true v (Ok x) to from h = ap Some h.1
by_test P true v (Err e) to from h = absurd (h (to refl))
by_test P false v (Ok x) to from h = cc (from h.0)
by_test P false v (Err e) to from h = refl

-- what `from_str_radix` gives at a text without a leading plus
pub parsed_digits : {E : Type 0} (base : ℕ) (ds : List ℕ) (r : Result ℕ E) → get_or ds 0 0 ≢ 43
    → ParsesUnsigned 32 base ds r → result_ok r ≡ digits_number base ds
parsed_digits base ds r plain h =
    let h' : OkIff r (IsNumeral base ds × (digits_value base ds < 2 ^ 32)) (digits_value base ds) =
    rw (without_leading_plus_none ds plain) at h in
    by_test (IsNumeral base ds × (digits_value base ds < 2 ^ 32))
    (nat_lt 0 (length ds) && list_all (λ c. is_digit c base) ds && nat_lt (digits_value base ds) (2 ^ 32))
    (digits_value base ds) r
    (λ t. let ab = and_parts (nat_lt 0 (length ds) && list_all (λ c. is_digit c base) ds)
    (nat_lt (digits_value base ds) (2 ^ 32)) t in
    let a = and_parts (nat_lt 0 (length ds)) (list_all (λ c. is_digit c base) ds) ab.0 in
    ((ltb-true _ _ a.0, test_all_digits base ds a.1), ltb-true _ _ ab.1))
    (λ p. and_from _ _ (and_from _ _ (lt-ltb _ _ p.0.0) (all_digits_test base ds p.0.1)) (lt-ltb _ _ p.1)) h'

none_by : (a b c : Bool) (v : ℕ) → b ≡ false → (if a && b && c then Some v else None) ≡ None
none_by true b c v h = rw h refl
none_by false b c v h = refl

-- a plus is no digit
pub plus_no_number : (base : ℕ) (ds : List ℕ) → base ≤ 16 → get_or ds 0 0 ≡ 43 → digits_number base ds ≡ None
plus_no_number base [] small h = refl
plus_no_number base (c ∷ cs) small h =
    let sum : nat_lt 36 base ≡ false = le-ltb _ _ (omega arith) in
    let first : is_digit c base ≡ false = rw h sum in
    none_by (nat_lt 0 (length (c ∷ cs))) (list_all (λ d. is_digit d base) (c ∷ cs))
    (nat_lt (digits_value base (c ∷ cs)) (2 ^ 32)) (digits_value base (c ∷ cs)) (and_left (is_digit c base) _ first)

pub if_true : {X : Type 0} (b : Bool) (x y : X) → b ≡ true → (if b then x else y) ≡ x
if_true true x y h = refl
if_true false x y h = cc

pub if_false : {X : Type 0} (b : Bool) (x y : X) → b ≡ false → (if b then x else y) ≡ y
if_false true x y h = cc
if_false false x y h = refl

abbrev Lent : Type 0
Lent = Option (Bor (List ℕ))

-- the text behind one front
one_front : (a : Bool) (d : List ℕ) (r : Lent) (x : Bor (List ℕ)) → option_copied r ≡ (if a then Some d else None)
    → r ≡ Some x → (a ≡ true) × (x.now ≡ d)
one_front true d r x h e = (refl, cc (ap option_copied e))
one_front false d r x h e = cc (ap option_copied e)

no_front : (a : Bool) (d : List ℕ) (r : Lent) → option_copied r ≡ (if a then Some d else None) → r ≡ None → a ≡ false
no_front true d r h e = cc (ap option_copied e)
no_front false d r h e = refl

either_front : (a b : Bool) (d : List ℕ) (r s : Lent) → option_copied r ≡ (if a then Some d else None)
    → option_copied s ≡ (if b then Some d else None)
    → option_copied (option_or r s) ≡ (if a || b then Some d else None)
either_front true b d (Some x) s h k = h
either_front true b d None s h k = cc
either_front false b d (Some x) s h k = cc
either_front false b d None s h k = k

-- the three spellings of a number, by what stood in front
pub number_hex : (text : List ℕ) (r s : Lent) (x : Bor (List ℕ))
    → option_copied r ≡ (if begins (codes "0x") text then Some (drop 2 text) else None)
    → option_copied s ≡ (if begins (codes "0X") text then Some (drop 2 text) else None) → option_or r s ≡ Some x
    → digits_number 16 x.now ≡ number_of text
unfolding number_of
number_hex text r s x h k e =
    let found = one_front (begins (codes "0x") text || begins (codes "0X") text) (drop 2 text) (option_or r s) x
    (either_front (begins (codes "0x") text) (begins (codes "0X") text) (drop 2 text) r s h k) e in
    ap (digits_number 16) found.1 ∙ sym (if_true (begins (codes "0x") text || begins (codes "0X") text) _ _ found.0)

not_hex : (text : List ℕ) (r s : Lent) → option_copied r
    ≡ (if begins (codes "0x") text then Some (drop 2 text) else None)
    → option_copied s ≡ (if begins (codes "0X") text then Some (drop 2 text) else None) → option_or r s ≡ None
    → number_of text ≡ (if begins (codes "0") text && nat_lt 1 (length text) then digits_number 8 (drop 1 text)
    else digits_number 10 text)
unfolding number_of
not_hex text r s h k e =
    if_false (begins (codes "0x") text || begins (codes "0X") text) _ _
    (no_front _ (drop 2 text) (option_or r s) (either_front (begins (codes "0x") text) (begins (codes "0X") text)
    (drop 2 text) r s h k) e)

pub number_octal : (text : List ℕ) (r s t : Lent) (x : Bor (List ℕ))
    → option_copied r ≡ (if begins (codes "0x") text then Some (drop 2 text) else None)
    → option_copied s ≡ (if begins (codes "0X") text then Some (drop 2 text) else None) → option_or r s ≡ None
    → option_copied t ≡ (if begins (codes "0") text then Some (drop 1 text) else None) → t ≡ Some x
    → (length x.now == 0) ≡ false → digits_number 8 x.now ≡ number_of text
number_octal text r s t x h k e f g long =
    let found = one_front (begins (codes "0") text) (drop 1 text) t x f g in
    let more : 1 < length text = omega (
      arith,
      eqb-false (length x.now) 0 long,
      ap (length {A = ℕ}) found.1,
      length-drop 1 text,
    ) in
    ap (digits_number 8) found.1 ∙ sym (not_hex text r s h k e
    ∙ if_true (begins (codes "0") text && nat_lt 1 (length text)) _ _
    (and_from _ _ found.0 (lt-ltb 1 (length text) more)))

pub number_decimal : (text : List ℕ) (r s : Lent) → option_copied r
    ≡ (if begins (codes "0x") text then Some (drop 2 text) else None)
    → option_copied s ≡ (if begins (codes "0X") text then Some (drop 2 text) else None) → option_or r s ≡ None
    → (begins (codes "0") text && nat_lt 1 (length text)) ≡ false → digits_number 10 text ≡ number_of text
number_decimal text r s h k e plain = sym (not_hex text r s h k e
    ∙ if_false (begins (codes "0") text && nat_lt 1 (length text)) _ _ plain)

-- `0` alone, and a text that begins otherwise, are decimal
pub short_zero : (text : List ℕ) (t : Lent) (x : Bor (List ℕ))
    → option_copied t ≡ (if begins (codes "0") text then Some (drop 1 text) else None) → t ≡ Some x
    → (length x.now == 0) ≡ true → (begins (codes "0") text && nat_lt 1 (length text)) ≡ false
short_zero text t x f g short =
    let found = one_front (begins (codes "0") text) (drop 1 text) t x f g in
    and_right _ _ (le-ltb 1 (length text) (omega (
      arith,
      eqb-true (length x.now) 0 short,
      ap (length {A = ℕ}) found.1,
      length-drop 1 text,
    )))

pub no_zero : (text : List ℕ) (t : Lent) → option_copied t
    ≡ (if begins (codes "0") text then Some (drop 1 text) else None) → t ≡ None
    → (begins (codes "0") text && nat_lt 1 (length text)) ≡ false
no_zero text t f g = and_left _ _ (no_front (begins (codes "0") text) (drop 1 text) t f g)

-- a separator stands in a text where its first place is in it
pub any_before_end : (p : ℕ → Bool) (xs : List ℕ) → list_any p xs ≡ nat_lt (position_or_len p xs) (length xs)
any_before_end p [] = refl
any_before_end p (x ∷ xs) = any_at (p x) p xs (any_before_end p xs)
  where
    any_at : (b : Bool) (p : ℕ → Bool) (xs : List ℕ) → list_any p xs ≡ nat_lt (position_or_len p xs) (length xs)
        → (b || list_any p xs) ≡ nat_lt (if not b then 1 + position_or_len p xs else 0) (suc (length xs))
    any_at true p xs h = sym (lt-ltb 0 _ (omega arith))
    any_at false p xs h = h ∙ grind (arith, nat_tests)

-- a test that failed
pub not_decided : (P : Type 0) (b : Bool) → b ≡ false → Decides b P → P → ⊥
not_decided P true h d p = cc
not_decided P false h d p = cc (d.1 p)
