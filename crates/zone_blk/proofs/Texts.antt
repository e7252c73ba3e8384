-- The names of dumps, as texts
use Rattle.std.proofs.Common.{◌≡◌, ◌≢◌, ℕ, ◌^◌, ◌<◌, Bool, true, false, if◌then◌else◌, List, [], ◌∷◌, ◌++◌, codes}
use Rattle.std.proofs.Common.{Option, Some, None, Result, Ok, Err, sym, ap, ◌∙◌, arith, append_assoc, bytes_eq, get_or}
use Rattle.std.specs.Prelude.{decimal}
use Rattle.std.specs.Str.Parse.{AllDigits, IsNumeral, ParsesUnsigned}
use Rattle.std.specs.Str.Pattern.{FindsTextPrefix, FindsTextSuffix, StripsPrefix, StripsSuffix}
use Rattle.std.proofs.lemmas.Fmt.{decimal_is_IsNumeral, parse-decimal}
use Rattle.std.proofs.lemmas.List.{append-nil, append_cancel_left, append_cancel_right}
use Rattle.std.proofs.lemmas.Slice.Eq.{bytes_eq-Decides}
use Rattle.blk_spec.specs.declared.BlkName.{BlkName}
use Rattle.blk_spec.specs.declared.BlkName.TheVariants.{Dump, Console, Pmsg}
use Rattle.blk_spec.specs.Names.{name_text, IsName, IsNameOf}
use Rattle.zone_blk.specs.Decimals.{IsDecimal, IsNumbered, IsDumpOf, dump_ending}

pub no-decimal : {E : Type 0} (text : List ℕ) (r : Result ℕ E) (e : E) → ParsesUnsigned 32 10 text r → r ≡ Err e
    → IsDecimal text None
no-decimal text r e p is = λ n below same. cc (is, parse-decimal 32 n text r below (omega arith) (sym same) p)

pub other-decimal : {E : Type 0} (text written : List ℕ) (r : Result ℕ E) (number : ℕ) (b : Bool)
    → ParsesUnsigned 32 10 text r → r ≡ Ok number → written ≡ decimal number → b ≡ bytes_eq written text → b ≡ false
    → IsDecimal text None
other-decimal text written r number b p is w t f = λ n below same.
    let e : number ≡ n = cc (is, parse-decimal 32 n text r below (omega arith) (sym same) p) in
    cc (f, t, (bytes_eq-Decides written text).1 (w ∙ ap decimal e ∙ same))

-- a numeral has no full stop
no-stop : (xs ys : List ℕ) → AllDigits 10 (xs ++ 46 ∷ ys) → ⊥
no-stop [] ys h = omega (arith, h.0)
no-stop (x ∷ xs) ys h = no-stop xs ys h.1

abbrev pub ending : List ℕ
ending = codes ".enc.z"

pub plain-not-packed : (n : ℕ) (digits : List ℕ) → n < 2 ^ 32 → decimal n ≡ digits ++ ending → ⊥
plain-not-packed n digits below e =
    let numeral : IsNumeral 10 (decimal n) = (decimal_is_IsNumeral n (omega arith)).0 in
    let numeral' : IsNumeral 10 (digits ++ ending) = rw e at numeral in
    no-stop digits (codes "enc.z") numeral'.1

pub packed-name : (behind digits : List ℕ) (r : Option BlkName) → behind ≡ digits ++ ending → IsNumbered digits true r
    → IsDumpOf behind r
packed-name behind digits (Some (Dump index flag)) e h =
    (h.0, ap (dump_ending index) h.2 ∙ ap (λ (xs : List ℕ). xs ++ ending) h.1 ∙ sym e)
packed-name behind digits (Some Console) e h = absurd h
packed-name behind digits (Some Pmsg) e h = absurd h
packed-name behind digits None e h = λ index packed below same. by-flag index packed below (same ∙ e)
  where
    by-flag : (index : ℕ) (packed : Bool) → index < 2 ^ 32 → dump_ending index packed ≡ digits ++ ending → ⊥
    by-flag index true below same = h index below (append_cancel_right (decimal index) digits ending same)
    by-flag index false below same = plain-not-packed index digits below (sym (append-nil (decimal index)) ∙ same)

pub plain-name : (behind : List ℕ) (r : Option BlkName) → ((front : List ℕ) → behind ≢ front ++ ending)
    → IsNumbered behind false r → IsDumpOf behind r
plain-name behind (Some (Dump index flag)) e h = (h.0, ap (dump_ending index) h.2 ∙ append-nil (decimal index) ∙ h.1)
plain-name behind (Some Console) e h = absurd h
plain-name behind (Some Pmsg) e h = absurd h
plain-name behind None e h = λ index packed below same. by-flag index packed below same
  where
    by-flag : (index : ℕ) (packed : Bool) → index < 2 ^ 32 → dump_ending index packed ≡ behind → ⊥
    by-flag index true below same = e (decimal index) (sym same)
    by-flag index false below same = h index below (sym (append-nil (decimal index)) ∙ same)

-- what stands before an ending that was cut off
pub stripped : (n s : List ℕ) (x : List ℕ) → StripsSuffix (FindsTextSuffix n) s x → s ≡ x ++ n
stripped n s x (k, (kn, front, boundary), rest, len) = front ∙ ap (λ (xs : List ℕ). xs ++ n) (sym rest)

abbrev pub front : List ℕ
front = codes "dmesg-pstore_blk-"

-- the dump whose name begins so
pub dump-name : (text behind : List ℕ) (r : Option BlkName) → text ≡ front ++ behind → IsDumpOf behind r
    → IsNameOf text r
dump-name text behind (Some (Dump index packed)) e h = (
  h.0,
  append_assoc front (decimal index) (if packed then ending else []) ∙ ap (λ (xs : List ℕ). front ++ xs) h.1
      ∙ sym e,
)
dump-name text behind (Some Console) e h = absurd h
dump-name text behind (Some Pmsg) e h = absurd h
dump-name text behind None e h = by-name
  where
    by-name : (name : BlkName) → IsName name → name_text name ≡ text → ⊥
    by-name (Dump index packed) below same =
        h index packed below (append_cancel_left front (dump_ending index packed) behind
        (sym (append_assoc front (decimal index) (if packed then ending else [])) ∙ same ∙ e))
    by-name Console below same = let first : ◌≡◌ {A = ℕ} 99 100 = ap (λ (xs : List ℕ). get_or xs 0 0) (same ∙ e) in
        absurd (omega (arith, first))
    by-name Pmsg below same = let first : ◌≡◌ {A = ℕ} 112 100 = ap (λ (xs : List ℕ). get_or xs 0 0) (same ∙ e) in
        absurd (omega (arith, first))

pub prefixed : (n s : List ℕ) (x : List ℕ) → StripsPrefix (FindsTextPrefix n) s x → s ≡ n ++ x
prefixed n s x (k, (kn, whole, boundary), rest, len) = whole ∙ ap (λ (xs : List ℕ). n ++ xs) (sym rest)

pub no-name : (text : List ℕ) (a b : Bool) → a ≡ bytes_eq text (name_text Console) → a ≡ false
    → b ≡ bytes_eq text (name_text Pmsg) → b ≡ false → ((rest : List ℕ) → text ≡ front ++ rest → ⊥) → IsNameOf text None
no-name text a b ta fa tb fb h = by-name
  where
    by-name : (name : BlkName) → IsName name → name_text name ≡ text → ⊥
    by-name (Dump index packed) below same = h (dump_ending index packed)
        (sym same ∙ append_assoc front (decimal index) (if packed then ending else []))
    by-name Console below same = cc (fa, ta, (bytes_eq-Decides text (name_text Console)).1 (sym same))
    by-name Pmsg below same = cc (fb, tb, (bytes_eq-Decides text (name_text Pmsg)).1 (sym same))
