-- The functions of a map, which has the lines of System.map or /proc/kallsyms: `ffffffff81000000 T _text`. A function of
-- a module has the module's name behind a tab: `ffffffffc0000000 t init_module [usbcore]`
use Rattle.std.specs.Prelude.{ℕ, ◌+◌, ◌-◌, ◌*◌, ◌%◌, ◌^◌, ◌==◌, nat_lt, nat_le, Bool, true, ◌&&◌, ◌||◌, if◌then◌else◌}
use Rattle.std.specs.Prelude.{List, [], ◌∷◌, ◌++◌, take, drop, slice_index}
use Rattle.std.specs.List.{prefix_len, list_any}
use Rattle.symbol_spec.specs.declared.Symbol.{Symbol}

abbrev pub is_digit : ℕ → Bool
is_digit b = (nat_le 48 b && nat_le b 57) || (nat_le 65 b && nat_le b 70) || (nat_le 97 b && nat_le b 102)

abbrev pub digit_value : ℕ → ℕ
digit_value b = if nat_lt b 58 then b - 48 else (if nat_lt b 71 then b - 55 else b - 87)

-- the number that hexadecimal digits spell after those of another, in 64 bits
unfoldable pub number_after : ℕ → List ℕ → ℕ
number_after n [] = n
number_after n (b ∷ bs) = number_after ((16 * n + digit_value b) % 2 ^ 64) bs

-- how many digits stand at the front
abbrev pub digits : List ℕ → ℕ
digits text = prefix_len is_digit text

-- the types of functions: `t`, `T`, and `w`, `W` for weak ones (nm)
abbrev pub is_type : ℕ → Bool
is_type b = (b == 116) || (b == 84) || (b == 119) || (b == 87)

abbrev pub is_of_name : ℕ → Bool
is_of_name b = nat_lt 32 b

-- a space, the type of a function, a space, and a name
abbrev pub is_typed : List ℕ → Bool
is_typed text =
    (slice_index text 0 == 32) && is_type (slice_index text 1) && (slice_index text 2 == 32)
    && is_of_name (slice_index text 3)

-- whether a function stands at the front of a line
abbrev pub is_symbol : List ℕ → Bool
is_symbol text = nat_lt 0 (digits text) && nat_le (digits text) 16 && is_typed (drop (digits text) text)

-- the function of a line that begins at a place
abbrev pub symbol_of : ℕ → List ℕ → Symbol
symbol_of at text = record { address = number_after 0 (take (digits text) text); name = at + digits text + 3 }

abbrev pub symbol_if : Bool → ℕ → List ℕ → List Symbol
symbol_if begins at text = if begins && is_symbol text then symbol_of at text ∷ [] else []

-- the functions of the lines of a text that begins at a place of the map; whether a line begins there
unfoldable pub symbols_from : Bool → ℕ → List ℕ → List Symbol
symbols_from begins at [] = []
symbols_from begins at (b ∷ bs) = symbol_if begins at (b ∷ bs) ++ symbols_from (b == 10) (at + 1) bs

-- a kernel that hides its addresses shows zeros in their place (kernel.kptr_restrict)
abbrev pub unless_hidden : List Symbol → List Symbol
unless_hidden symbols = if list_any (λ (s : Symbol). nat_lt 0 s.address) symbols then symbols else []

-- the functions of a map, in its order
abbrev pub symbols_of : List ℕ → List Symbol
symbols_of text = unless_hidden (symbols_from true 0 text)

-- a name
abbrev pub name_at : List ℕ → ℕ → List ℕ
name_at text at = take (prefix_len is_of_name (drop at text)) (drop at text)

-- the module of the function whose name begins there, in its brackets; nothing for a function of the kernel itself
abbrev pub bracketed : List ℕ → List ℕ
bracketed text =
    if (slice_index text 0 == 9) && (slice_index text 1 == 91) then take (prefix_len is_of_name (drop 1 text)) (drop 1 text)
    else []

abbrev pub module_at : List ℕ → ℕ → List ℕ
module_at text at = bracketed (drop (prefix_len is_of_name (drop at text)) (drop at text))
