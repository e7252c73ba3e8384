-- How a dump's number is found in its name
use Rattle.std.proofs.Common.{◌≡◌, ℕ, ◌<◌, ◌^◌, ◌≢◌, Bool, true, false, List, [], ◌∷◌, ◌++◌, length, get_or, refl, sym}
use Rattle.std.proofs.Common.{ap, ◌∙◌, arith, Option, Some, None, append-nil, append_assoc, length-append}
use Rattle.std.specs.Prelude.{codes, decimal, bytes_eq, if◌then◌else◌}
use Rattle.std.specs.Borrow.{Bor}
use Rattle.std.specs.Str.Parse.{AllDigits, digits_value}
use Rattle.std.proofs.lemmas.List.{get_or_at}
use Rattle.std.proofs.lemmas.Fmt.{decimal_is_IsNumeral}
use Rattle.std.proofs.lemmas.Str.Parse.{IsNumeralModel, numerals_by_value, tells_digits, not_in_digits}
use Rattle.std.proofs.lemmas.Option.{MatchOption-at_some, MatchOption-at_none}
use Rattle.std.proofs.lemmas.Slice.Eq.{bytes_eq-Decides}
use Rattle.std.proofs.lemmas.Bool.{true≢false}
use Rattle.zone_spec.specs.declared.Name.{Name}
use Rattle.zone_spec.specs.declared.Name.TheVariants.{Dump, Console, Pmsg, Ftrace}
use Rattle.zone_spec.specs.Names.{name_text, IsName}
use Rattle.std.proofs.lemmas.Str.Pattern.{IsSplitOnceResult, split_after, split_parts}

own : IsNumeralModel (AllDigits 10) (digits_value 10)
own = numerals_by_value (AllDigits 10) tells_digits

-- no point in a decimal
pointless : (n : ℕ) → n < 2 ^ 32 → (i : ℕ) → i < length (decimal n) → get_or (decimal n) i 0 ≢ 46
pointless n small = not_in_digits own (decimal n) 46 (decimal_is_IsNumeral n (omega (arith, small))).0.1
    (λ r. absurd (omega (arith, r)))

pub whole : (n : ℕ) (rest front back : List ℕ) → n < 2 ^ 32 → rest ≡ decimal n ++ [] → rest ≡ front ++ (46 ∷ back) → ⊥
whole n rest front back small e cut =
    let same : decimal n ≡ front ++ (46 ∷ back) = sym (append-nil (decimal n)) ∙ sym e ∙ cut in
    let at : get_or (decimal n) (length front) 0 ≡ 46 = ap (λ xs. get_or xs (length front) 0) same
    ∙ get_or_at front 46 back 0 (length front) refl in
    pointless n small (length front) (inside n front back same) at
  where
    inside : (n : ℕ) (front back : List ℕ) → decimal n ≡ front ++ (46 ∷ back) → length front < length (decimal n)
    inside n front back e = omega (arith, ap length e, length-append front (46 ∷ back))

-- what stands before the first point
pub split-some : (rest : List ℕ) (index : ℕ) (packed : Bool) (r : Option (Bor (List ℕ) × Bor (List ℕ)))
    (digits back : Bor (List ℕ)) → index < 2 ^ 32 → IsSplitOnceResult 46 rest r → r ≡ Some (digits, back)
    → rest ≡ decimal index ++ (if packed then codes ".enc.z" else []) → (packed ≡ true) × (digits.now ≡ decimal index)
split-some rest index true r digits back small cut some e =
    let parts = split_after 46 rest (decimal index) (codes "enc.z") r cut (omega arith) e (pointless index small) in (
      refl,
      (MatchOption-at_some ⊥ (λ (x : Bor (List ℕ) × Bor (List ℕ)). (x.0.now ≡ decimal index)
          × (x.1.now ≡ codes "enc.z")) (digits, back) some parts).0,
    )
split-some rest index false r digits back small cut some e =
    let parts = split_parts 46 rest r cut (omega arith) in
    absurd (whole index rest digits.now back.now small e
    (MatchOption-at_some ((i : ℕ) → i < length rest → get_or rest i 0 ≢ 46)
    (λ (x : Bor (List ℕ) × Bor (List ℕ)). (rest ≡ x.0.now ++ (46 ∷ x.1.now))
    × ((i : ℕ) → i < length x.0.now → get_or x.0.now i 0 ≢ 46)) (digits, back) some parts).0)

pub split-none : (rest : List ℕ) (index : ℕ) (packed : Bool) (r : Option (Bor (List ℕ) × Bor (List ℕ)))
    → index < 2 ^ 32 → IsSplitOnceResult 46 rest r → r ≡ None
    → rest ≡ decimal index ++ (if packed then codes ".enc.z" else []) → (packed ≡ false) × (rest ≡ decimal index)
split-none rest index true r small cut none e =
    let parts = split_after 46 rest (decimal index) (codes "enc.z") r cut (omega arith) e (pointless index small) in
    absurd (MatchOption-at_none ⊥ (λ (x : Bor (List ℕ) × Bor (List ℕ)). (x.0.now ≡ decimal index)
    × (x.1.now ≡ codes "enc.z")) none parts)
split-none rest index false r small cut none e = (refl, e ∙ append-nil (decimal index))

-- a text that is none of the fixed ones, and does not begin as a dump's does
pub nameless : (text : List ℕ) → bytes_eq text (codes "console-ramoops-0") ≡ false
    → bytes_eq text (codes "pmsg-ramoops-0") ≡ false → bytes_eq text (codes "ftrace-ramoops-0") ≡ false
    → ((rest : List ℕ) → text ≡ codes "dmesg-ramoops-" ++ rest → ⊥) → (name : Name) → IsName name
    → name_text name ≡ text → None ≡ Some name
nameless text console pmsg ftrace dump (Dump index packed) h e =
    absurd (dump (decimal index ++ (if packed then codes ".enc.z" else []))
    (sym e ∙ append_assoc (codes "dmesg-ramoops-") (decimal index) (if packed then codes ".enc.z" else [])))
nameless text console pmsg ftrace dump Console h e = absurd
    (true≢false (sym ((bytes_eq-Decides text (codes "console-ramoops-0")).1 (sym e)) ∙ console))
nameless text console pmsg ftrace dump Pmsg h e = absurd
    (true≢false (sym ((bytes_eq-Decides text (codes "pmsg-ramoops-0")).1 (sym e)) ∙ pmsg))
nameless text console pmsg ftrace dump Ftrace h e = absurd
    (true≢false (sym ((bytes_eq-Decides text (codes "ftrace-ramoops-0")).1 (sym e)) ∙ ftrace))
