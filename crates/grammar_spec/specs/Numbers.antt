-- The numbers of parameters, below 2 ^ 32: decimal without a leading 0, `0x` or `0X` and hexadecimal
-- digits, `0` and octal digits (lib/kstrtox.c)
use Rattle.std.specs.Prelude.{ℕ, ◌^◌, Bool, ◌&&◌, ◌||◌, if◌then◌else◌, nat_eq, nat_lt, List, length, drop, codes}
use Rattle.std.specs.Prelude.{Option, Some, None}
use Rattle.std.specs.List.{list_all, starts_with}
use Rattle.std.specs.Char.{is_digit}
use Rattle.std.specs.Str.Parse.{digits_value}

-- the number that these digits write in a base; at least one, and no other byte
abbrev pub digits_number : ℕ → List ℕ → Option ℕ
digits_number base digits =
    if nat_lt 0 (length digits) && list_all (λ c. is_digit c base) digits && nat_lt (digits_value base digits) (2 ^ 32)
    then Some (digits_value base digits) else None

abbrev pub begins : List ℕ → List ℕ → Bool
begins front text = starts_with nat_eq text front

unfoldable pub number_of : List ℕ → Option ℕ
number_of text =
    if begins (codes "0x") text || begins (codes "0X") text then digits_number 16 (drop 2 text)
    else if begins (codes "0") text && nat_lt 1 (length text) then digits_number 8 (drop 1 text)
    else digits_number 10 text
