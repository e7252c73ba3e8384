-- The tokens of the structure block (section 5.4.1)
use Rattle.std.specs.Prelude.{ℕ, ◌+◌, ◌==◌, nat_lt, if◌then◌else◌, List, length, Option, Some, None, Result, Ok, Err}
use Rattle.dtb_spec.specs.Cells.{cell, span, text_len, padded}
use Rattle.dtb_spec.specs.declared.Token.{Token}
use Rattle.dtb_spec.specs.declared.Token.TheVariants.{BeginNode, EndNode, Prop, Nop, End}
use Rattle.dtb_spec.specs.declared.Fault.{Fault}
use Rattle.dtb_spec.specs.declared.Fault.TheVariants.{EndMissing, UnknownToken, Unended}

-- the beginning of a node: its name, a zero, and zeros up to the next cell
abbrev pub node_named : ℕ → Option ℕ → Result (Token × ℕ) Fault
node_named at None = Err Unended
node_named at (Some len) = Ok (BeginNode (span (at + 4) len), at + 4 + padded (len + 1))

abbrev pub property_named : ℕ → ℕ → ℕ → Option ℕ → Result (Token × ℕ) Fault
property_named at size name None = Err Unended
property_named at size name (Some len) =
    Ok (Prop (record { name = span name len; value = span (at + 12) size }), at + 12 + padded size)

-- a property of so many bytes, and the place of its name in the strings block
abbrev pub property_sized : List ℕ → List ℕ → ℕ → ℕ → ℕ → Result (Token × ℕ) Fault
property_sized structure strings at size name =
    if nat_lt (length structure) (at + 12 + size) then Err EndMissing
    else property_named at size name (text_len strings name)

unfoldable pub property_at : List ℕ → List ℕ → ℕ → Result (Token × ℕ) Fault
property_at structure strings at =
    if nat_lt (length structure) (at + 12) then Err EndMissing
    else property_sized structure strings at (cell structure (at + 4)) (cell structure (at + 8))

abbrev pub token_of : List ℕ → List ℕ → ℕ → ℕ → Result (Token × ℕ) Fault
token_of structure strings at kind =
    if kind == 1 then node_named at (text_len structure (at + 4))
    else (if kind == 2 then Ok (EndNode, at + 4)
    else (if kind == 3 then property_at structure strings at
    else (if kind == 4 then Ok (Nop, at + 4)
    else (if kind == 9 then Ok (End, at + 4)
    else Err UnknownToken))))

-- the token at a place, and the place after it
unfoldable pub token_at : List ℕ → List ℕ → ℕ → Result (Token × ℕ) Fault
token_at structure strings at =
    if nat_lt (length structure) (at + 4) then Err EndMissing
    else token_of structure strings at (cell structure at)
