-- Numbers below a limit, as their decimal texts
use Rattle.std.proofs.Common.{◌≡◌, ℕ, ◌<◌, ◌≤◌, ◌^◌, Bool, true, false, ◌&&◌, List, Option, Some, None, Result, Ok, Err}
use Rattle.std.proofs.Common.{cond, nat_lt, refl, sym, ap, subst, ◌∙◌, arith, ◌⊎◌, inl, inr}
use Rattle.std.specs.Prelude.{decimal, bytes_eq, IsUtf8}
use Rattle.std.specs.Str.Parse.{digits_value, ParsesUnsigned}
use Rattle.std.specs.Result.{result_unwrap_or, result_ok}
use Rattle.std.proofs.lemmas.Fmt.{decimal_is_IsNumeral, parse-decimal, IsAscii-decimal}
use Rattle.std.proofs.lemmas.Str.{IsUtf8-from_ascii}
use Rattle.std.proofs.lemmas.Slice.Eq.{bytes_eq-Decides}
use Rattle.std.proofs.lemmas.Bool.{and_parts, and_from}
use Rattle.std.proofs.lemmas.Bool.Decides.{Decides-ltb}
use Rattle.std.proofs.lemmas.Option.{cond_some}
use Rattle.grammar_spec.specs.Fields.{number_below}
use Rattle.script.specs.Reading.{IsParsed}

-- what parsing shows, by the outcome
parsed_ok : {E : Type 0} (text : List ℕ) (r : Result ℕ E) → ParsesUnsigned 64 10 text r → IsParsed text (result_ok r)
parsed_ok {E} text (Ok v) h = λ n top e. ap (λ (q : Result ℕ E). result_unwrap_or q 0)
    (parse-decimal 64 n text (Ok v) top top e h)
parsed_ok text (Err f) h = λ n top e. cc (parse-decimal 64 n text (Err f) top top e h)

-- no option is chosen
pub none_of : {X : Type 0} (b : Bool) (x : X) → (b ≡ true → ⊥) → cond b (Some x) None ≡ None
none_of true x h = absurd (h refl)
none_of false x h = refl

-- the number that is read is below the limit, and the text is its decimal
pub number_below-some : (limit : ℕ) (text : List ℕ) (n : ℕ) → number_below limit text ≡ Some n
    → (n < limit) × (text ≡ decimal n)
unfolding number_below
number_below-some limit text n h =
    let v = digits_value 10 text in
    let e = cond_some (nat_lt v limit && bytes_eq text (decimal v)) v n h in
    let t = and_parts (nat_lt v limit) (bytes_eq text (decimal v)) e.0 in
    rw (← e.1) ((Decides-ltb v limit).0 t.0, (bytes_eq-Decides text (decimal v)).0 t.1)

-- the decimal of a number below the limit is read as it
pub number_below-decimal : (limit n : ℕ) (text : List ℕ) → n < limit → n < 2 ^ 64 → text ≡ decimal n
    → number_below limit text ≡ Some n
unfolding number_below
number_below-decimal limit n text below top same =
    let v = digits_value 10 text in
    let e : v ≡ n = ap (λ t. digits_value 10 t) same ∙ (decimal_is_IsNumeral n top).1 in
    let test : (nat_lt v limit && bytes_eq text (decimal v)) ≡ true =
    and_from (nat_lt v limit) (bytes_eq text (decimal v)) ((Decides-ltb v limit).1 (omega (arith, e, below)))
    ((bytes_eq-Decides text (decimal v)).1 (same ∙ ap decimal (sym e))) in
    ap (λ b. cond b (Some v) None) test ∙ ap Some e

-- what is no such decimal is none
pub number_below-none : (limit : ℕ) (text : List ℕ) → ((n : ℕ) → n < limit → text ≡ decimal n → ⊥)
    → number_below limit text ≡ None
unfolding number_below
number_below-none limit text h =
    let v = digits_value 10 text in
    none_of (nat_lt v limit && bytes_eq text (decimal v)) v (λ test.
    let t = and_parts (nat_lt v limit) (bytes_eq text (decimal v)) test in
    h v ((Decides-ltb v limit).0 t.0) ((bytes_eq-Decides text (decimal v)).0 t.1))

-- the same of a text that is no decimal below 2 ^ 64
pub number_below-no_decimal : (limit : ℕ) (text : List ℕ) → limit ≤ 2 ^ 63
    → ((n : ℕ) → n < 2 ^ 64 → text ≡ decimal n → ⊥) → number_below limit text ≡ None
number_below-no_decimal limit text top h = number_below-none limit text (λ n below e. h n (omega (arith, below, top)) e)

-- bytes that are no text are no decimal
pub not_text : (text : List ℕ) → (IsUtf8 text → ⊥) → (n : ℕ) → n < 2 ^ 64 → text ≡ decimal n → ⊥
not_text text h n top e = h (rw e (IsUtf8-from_ascii (decimal n) (IsAscii-decimal n top)))

-- what parsing shows
pub parsed_is : {E : Type 0} (text : List ℕ) (r : Result ℕ E) (o : Option ℕ) → ParsesUnsigned 64 10 text r
    → o ≡ result_ok r → IsParsed text o
parsed_is text r o h e = subst (IsParsed text) (sym e) (parsed_ok text r h)

-- text that is the decimal of one number at most, and not of this one or not below the limit
pub number_below-other : (limit n : ℕ) (text written : List ℕ) (b : Bool) → limit ≤ 2 ^ 63 → IsParsed text (Some n)
    → b ≡ bytes_eq written text → written ≡ decimal n → ((n < limit) × (b ≡ false)) ⊎ (limit ≤ n)
    → number_below limit text ≡ None
number_below-other limit n text written b top h test is other =
    number_below-none limit text (λ m below e.
    let same : n ≡ m = h m (omega (arith, below, top)) e in
    elim other [
      | inl low ↦ cc (sym (low.1) ∙ test ∙ (bytes_eq-Decides written text).1 (is ∙ ap decimal same ∙ sym e))
      | inr high ↦ absurd (omega (arith, high, same, below))
    ])
