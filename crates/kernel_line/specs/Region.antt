-- Where a kernel's command line says that the region lies (fs/pstore/ram.c, mem_address and mem_name; mm/memblock.c,
-- reserve_mem)
use Rattle.std.specs.Prelude.{ℕ, ◌*◌, ◌^◌, ◌-◌, Bool, ◌&&◌, ◌||◌, ◌==◌, if◌then◌else◌, nat_lt, List, [], ◌∷◌, length}
use Rattle.std.specs.Prelude.{take, drop, slice_index, codes, bytes_eq, Option, Some, None}
use Rattle.std.specs.Option.{option_and_then, option_or}
use Rattle.std.specs.List.{list_all, before_first, after_first}
use Rattle.std.specs.Char.{is_digit}
use Rattle.std.specs.Str.Parse.{digits_value}
use Rattle.grammar_spec.specs.Numbers.{begins}
use Rattle.kernel_line.specs.Line.{line_words}

-- what a word has behind this front
abbrev pub value_behind : List ℕ → List ℕ → Option (List ℕ)
value_behind front word = if begins front word then Some (drop (length front) word) else None

-- the last value behind this front: the kernel sets a parameter at each word
unfoldable pub last_value : List ℕ → List (List ℕ) → Option (List ℕ)
last_value front [] = None
last_value front (word ∷ words) = option_or (last_value front words) (value_behind front word)

-- the number below 2 ^ 64 that digits write in a base; at least one, and no other byte
abbrev pub long_digits : ℕ → List ℕ → Option ℕ
long_digits base digits =
    if nat_lt 0 (length digits) && list_all (λ c. is_digit c base) digits && nat_lt (digits_value base digits) (2 ^ 64)
    then Some (digits_value base digits) else None

-- a number: decimal without a leading 0, `0x` or `0X` and hexadecimal digits, `0` and octal digits (lib/kstrtox.c)
unfoldable pub long_number : List ℕ → Option ℕ
long_number text =
    if begins (codes "0x") text || begins (codes "0X") text then long_digits 16 (drop 2 text)
    else if begins (codes "0") text && nat_lt 1 (length text) then long_digits 8 (drop 1 text)
    else long_digits 10 text

-- the address of the region
abbrev pub address_in : List (List ℕ) → Option ℕ
address_in words = option_and_then long_number (last_value (codes "ramoops.mem_address=") words)

-- K, M and G, large or small, are units (lib/cmdline.c, memparse)
abbrev pub unit_of : ℕ → ℕ
unit_of b =
    if b == 75 || b == 107 then 2 ^ 10
    else if b == 77 || b == 109 then 2 ^ 20
    else if b == 71 || b == 103 then 2 ^ 30
    else 1

-- so many of a unit, below 2 ^ 64
abbrev pub bytes_of : ℕ → ℕ → Option ℕ
bytes_of unit number = if nat_lt (number * unit) (2 ^ 64) then Some (number * unit) else None

-- the last byte, and what stands before it if it is a unit
abbrev pub last_byte : List ℕ → ℕ
last_byte text = slice_index text (length text - 1)

abbrev pub without_unit : List ℕ → List ℕ
without_unit text = if unit_of (last_byte text) == 1 then text else take (length text - 1) text

-- a size, with or without its unit
unfoldable pub size_in : List ℕ → Option ℕ
size_in text = option_and_then (bytes_of (unit_of (last_byte text))) (long_number (without_unit text))

abbrev pub is_colon : ℕ → Bool
is_colon b = b == 58

-- the name in `SIZE:ALIGN:NAME`
abbrev pub name_in : List ℕ → List ℕ
name_in value = after_first is_colon (after_first is_colon value)

-- the size in `SIZE:ALIGN:NAME`, where it has this name
unfoldable pub size_named : List ℕ → List ℕ → Option ℕ
size_named name value =
    if nat_lt 0 (length name) && bytes_eq (name_in value) name then size_in (before_first is_colon value) else None

-- the bytes that are reserved under a name: of several words the first counts, the kernel takes no name again
unfoldable pub reserved_as : List ℕ → List (List ℕ) → Option ℕ
reserved_as name [] = None
reserved_as name (word ∷ words) =
    option_or (option_and_then (size_named name) (value_behind (codes "reserve_mem=") word)) (reserved_as name words)

-- the bytes that are reserved under the name that ramoops is given
abbrev pub reserved_in : List (List ℕ) → Option ℕ
reserved_in words =
    option_and_then (λ name. reserved_as name words) (last_value (codes "ramoops.mem_name=") words)
