-- Where the blocks of a tree lie (section 5.2)
use Rattle.std.specs.Prelude.{ℕ, ◌+◌, ◌%◌, ◌==◌, nat_lt, nat_le, Bool, not, ◌&&◌, ◌||◌, if◌then◌else◌, List, length}
use Rattle.std.specs.Prelude.{Result, Ok, Err}
use Rattle.dtb_spec.specs.Cells.{cell, span}
use Rattle.dtb_spec.specs.declared.Span.{Span}
use Rattle.dtb_spec.specs.declared.Header.{Header}
use Rattle.dtb_spec.specs.declared.Fault.{Fault}
use Rattle.dtb_spec.specs.declared.Fault.TheVariants.{NoMagic, Version, Outside}

-- the header's ten cells: magic, total size, the places of the structure block, the strings and the memory
-- reservations, version, the oldest version that it can be read as, boot processor, and two sizes
abbrev pub structure_in : List ℕ → Span
structure_in bytes = span (cell bytes 8) (cell bytes 36)

abbrev pub strings_in : List ℕ → Span
strings_in bytes = span (cell bytes 12) (cell bytes 32)

-- after the header, within so many bytes
abbrev pub fits : ℕ → Span → Bool
fits total s = nat_le 40 s.from && nat_le (s.from + s.len) total

-- the memory reservations end with two numbers of eight bytes, so they have at least 16; they hold nothing of the tree
abbrev pub all_fit : List ℕ → Bool
all_fit bytes =
    nat_le (cell bytes 4) (length bytes)
    && fits (cell bytes 4) (structure_in bytes) && fits (cell bytes 4) (strings_in bytes)
    && fits (cell bytes 4) (span (cell bytes 16) 16) && (cell bytes 8 % 4 == 0) && (cell bytes 16 % 8 == 0)

unfoldable pub header_of : List ℕ → Result Header Fault
header_of bytes =
    if nat_lt (length bytes) 40 || not (cell bytes 0 == 0xd00dfeed) then Err NoMagic
    else (if nat_lt (cell bytes 20) 17 || nat_lt 17 (cell bytes 24) then Err Version
    else (if all_fit bytes then Ok (record { structure = structure_in bytes; strings = strings_in bytes })
    else Err Outside))
