-- Texts without a space or a newline, and how they are cut
use Rattle.std.proofs.Common.{◌≡◌, ℕ, ◌<◌, ◌≤◌, ◌^◌, ◌==◌, Bool, true, false, ◌&&◌, List, [], ◌∷◌, ◌++◌, length, get_or}
use Rattle.std.proofs.Common.{nat_lt, nat_le, refl, ap, ◌∙◌, arith}
use Rattle.std.specs.Prelude.{All, decimal}
use Rattle.std.specs.List.{AllPass, AllByRecursion, list_all, slice_split, join_with_byte}
use Rattle.std.specs.Int.{IsInRange}
use Rattle.std.specs.Str.Parse.{digits_value}
use Rattle.std.proofs.lemmas.Bool.{and_parts}
use Rattle.std.proofs.lemmas.Bool.Decides.{Decides-ltb}
use Rattle.std.proofs.lemmas.Fmt.{decimal_is_IsNumeral}
use Rattle.std.proofs.lemmas.Str.Parse.{IsNumeralModel, numerals_by_value, tells_by_index}
use Rattle.std.proofs.lemmas.List.Elements.{All-weaker, All-append, All-cons, All-from_get_or}
use Rattle.std.proofs.lemmas.List.Sums.{AllPass-from_list_all}
use Rattle.std.proofs.lemmas.List.Splits.{slice_split_none, slice_split_at}
use Rattle.hex.specs.Hex.{encode_lower, is_hex_digit, IsBytes}
use Rattle.hex.proofs.HexLemmas.{decode_of-ok, decode_of-encode_lower}
use Rattle.grammar_spec.specs.Fields.{Text, is_name}

abbrev pub solid : ℕ → Bool
solid c = nat_lt 0x20 c

pub record IsSolid (text : Text) : Type 0 where
  pub each : AllPass solid text

pub solid_literal : (text : Text) → list_all solid text ≡ true → IsSolid text
solid_literal text h = record { each = AllPass-from_list_all solid text h }

pub solid_append : (a b : Text) → IsSolid a → IsSolid b → IsSolid (a ++ b)
solid_append a b h k = record { each = All-append (λ c. solid c ≡ true) a b h.each k.each }

by_index : IsNumeralModel (λ ds. (i : ℕ) → i < length ds → IsInRange 48 57 (get_or ds i 0)) (digits_value 10)
by_index = numerals_by_value _ tells_by_index

pub solid_decimal : (n : ℕ) → n < 2 ^ 64 → IsSolid (decimal n)
solid_decimal n top =
    let digits = by_index.from (decimal n) (decimal_is_IsNumeral n top).0.1 in
    record {
      each = All-from_get_or (λ c. solid c ≡ true) (decimal n) 0
          (λ i below. let d = digits i below in (Decides-ltb 32 (get_or (decimal n) i 0)).1 (omega (arith, d.0)));
    }

digit_is_solid : (c : ℕ) → is_hex_digit c ≡ true → solid c ≡ true
digit_is_solid c h = grind arith

pub solid_hex : (bytes : List ℕ) → IsBytes bytes → IsSolid (encode_lower bytes)
solid_hex bytes h =
    let digits = (decode_of-ok (encode_lower bytes) bytes (decode_of-encode_lower bytes h)).1 in
    record {
      each = All-weaker (λ c. is_hex_digit c ≡ true) (λ c. solid c ≡ true) digit_is_solid (encode_lower bytes)
          digits;
    }

name_is_solid : (c : ℕ) → (nat_le 0x21 c && nat_le c 0x7e) ≡ true → solid c ≡ true
name_is_solid c h = grind arith

pub solid_name : (text : Text) → is_name text ≡ true → IsSolid text
solid_name text h =
    let bytes = (and_parts (nat_lt 0 (length text)) (list_all (λ c. nat_le 0x21 c && nat_le c 0x7e) text) h).1 in
    record {
      each = All-weaker (λ c. (nat_le 0x21 c && nat_le c 0x7e) ≡ true) (λ c. solid c ≡ true) name_is_solid text
          (AllPass-from_list_all _ text bytes);
    }

-- a solid text has no mark at or below the space
no_mark : (m c : ℕ) → m ≤ 32 → solid c ≡ true → (c == m) ≡ false
no_mark m c h k = grind arith

pub without_mark : (m : ℕ) (text : Text) → m ≤ 32 → IsSolid text → All (λ c. (c == m) ≡ false) text
without_mark m text h k = All-weaker (λ c. solid c ≡ true) (λ c. (c == m) ≡ false) (λ c. no_mark m c h) text k.each

-- solid fields that are joined by spaces are cut apart again
pub cut_joined : (f : Text) (fs : List Text) → IsSolid f → AllByRecursion IsSolid fs
    → slice_split (λ b. b == 0x20) (join_with_byte 0x20 (f ∷ fs)) ≡ f ∷ fs
cut_joined f [] h k = slice_split_none (λ b. b == 0x20) f (without_mark 32 f (omega arith) h)
cut_joined f (g ∷ gs) h k =
    slice_split_at (λ b. b == 0x20) f 0x20 (join_with_byte 0x20 (g ∷ gs)) (without_mark 32 f (omega arith) h) refl
    ∙ ap (λ t. f ∷ t) (cut_joined g gs k.0 k.1)

-- and have no newline
pub joined_line : (f : Text) (fs : List Text) → IsSolid f → AllByRecursion IsSolid fs
    → All (λ b. (b == 0x0a) ≡ false) (join_with_byte 0x20 (f ∷ fs))
joined_line f [] h k = without_mark 10 f (omega arith) h
joined_line f (g ∷ gs) h k =
    All-append (λ b. (b == 0x0a) ≡ false) f (0x20 ∷ join_with_byte 0x20 (g ∷ gs)) (without_mark 10 f (omega arith) h)
    (All-cons (λ b. (b == 0x0a) ≡ false) 0x20 (join_with_byte 0x20 (g ∷ gs)) refl (joined_line g gs k.0 k.1))
