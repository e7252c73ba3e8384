-- The function that an address is of: the last one at or below it, unless that is far below. Of several with one address
-- it is the first of the map, as for the kernel (kernel/kallsyms.c, get_symbol_pos)
use Rattle.std.specs.Prelude.{ℕ, ◌-◌, ◌^◌, Bool, true, ◌&&◌, ◌||◌, ◌==◌, nat_lt, nat_le, if◌then◌else◌, List, [], ◌∷◌, Option}
use Rattle.std.specs.Prelude.{Some, None}
use Rattle.symbol_spec.specs.declared.Symbol.{Symbol}
use Rattle.symbol_spec.specs.Maps.{symbols_of}

-- whether a function is above another one, or at its address and before it in the map
abbrev pub is_nearer : Symbol → Symbol → Bool
is_nearer s held =
    nat_lt held.address s.address || ((s.address == held.address) && nat_lt s.name held.name)

abbrev pub is_nearer_than : Symbol → Option Symbol → Bool
is_nearer_than s None = true
is_nearer_than s (Some held) = is_nearer s held

abbrev pub nearer_of : ℕ → Symbol → Option Symbol → Option Symbol
nearer_of address s held = if nat_le s.address address && is_nearer_than s held then Some s else held

-- the last one at or below it; none, if all are above it
unfoldable pub function_in : List Symbol → ℕ → Option Symbol
function_in [] address = None
function_in (s ∷ symbols) address = nearer_of address s (function_in symbols address)

-- no function of a kernel has 1 MiB. An address that is so far behind one is of a module, or of user space, which the map
-- does not have
abbrev pub unless_far : ℕ → Option Symbol → Option Symbol
unless_far address None = None
unless_far address (Some s) = if nat_lt (address - s.address) (2 ^ 20) then Some s else None

-- by a map
abbrev pub function_of : List ℕ → ℕ → Option Symbol
function_of map address = unless_far address (function_in (symbols_of map) address)
