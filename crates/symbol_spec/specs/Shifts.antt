-- How far above its map a kernel runs (KASLR). It says so after `Kernel Offset: `, such as
-- `0x2ee00000 from 0xffffffff81000000`: how far, and where its map begins (dump_kernel_offset)
use Rattle.std.specs.Prelude.{ℕ, ◌-◌, ◌==◌, nat_eq, nat_lt, nat_le, Bool, false, ◌&&◌, if◌then◌else◌, List, take, drop}
use Rattle.std.specs.Prelude.{codes, Option, Some, None}
use Rattle.std.specs.List.{starts_with}
use Rattle.symbol_spec.specs.declared.Symbol.{Symbol}
use Rattle.symbol_spec.specs.Maps.{digits, number_after}
use Rattle.symbol_spec.specs.Functions.{function_of}

-- whether a number stands at the front of a text: `0x`, and 1 to 16 digits
abbrev pub is_number : List ℕ → Bool
is_number text =
    starts_with nat_eq text (codes "0x") && nat_lt 0 (digits (drop 2 text)) && nat_le (digits (drop 2 text)) 16

abbrev pub number_of : List ℕ → ℕ
number_of text = number_after 0 (take (digits (drop 2 text)) (drop 2 text))

abbrev pub after_number : List ℕ → List ℕ
after_number text = drop (digits (drop 2 text)) (drop 2 text)

-- whether it says how far from where
abbrev pub is_shift : List ℕ → Bool
is_shift said =
    is_number said && starts_with nat_eq (after_number said) (codes " from ") && is_number (drop 6 (after_number said))

abbrev pub from_of : List ℕ → ℕ
from_of said = number_of (drop 6 (after_number said))

abbrev pub begins_at : ℕ → Option Symbol → Bool
begins_at address None = false
begins_at address (Some s) = s.address == address

-- how far above a map the kernel runs that says this. It is 0 if no function of the map begins where that kernel's map
-- begins: the map is then of the running kernel already, as /proc/kallsyms, or of another one
unfoldable pub shift_of : (map said : List ℕ) → ℕ
shift_of map said =
    if is_shift said && begins_at (from_of said) (function_of map (from_of said)) then number_of said else 0

-- the function of an address of a kernel that runs so far above the map
unfoldable pub function_above : List ℕ → (shift address : ℕ) → Option Symbol
function_above map shift address = if nat_lt address shift then None else function_of map (address - shift)
