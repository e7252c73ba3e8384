-- The names and the properties of the nodes
use Rattle.std.specs.Prelude.{ℕ, zero, suc, ◌+◌, ◌==◌, nat_lt, if◌then◌else◌, List, [], ◌∷◌, ◌++◌, length, drop, find}
use Rattle.std.specs.Prelude.{flat_map, codes, Option, Result, Ok, Err}
use Rattle.std.specs.List.{before_first}
use Rattle.std.specs.Option.{option_map}
use Rattle.std.specs.Str.{bytes_eq}
use Rattle.dtb_spec.specs.Cells.{span_of}
use Rattle.dtb_spec.specs.Tokens.{token_at}
use Rattle.dtb_spec.specs.declared.Span.{Span}
use Rattle.dtb_spec.specs.declared.Property.{Property}
use Rattle.dtb_spec.specs.declared.Token.{Token}
use Rattle.dtb_spec.specs.declared.Token.TheVariants.{BeginNode, EndNode, Prop, Nop, End}
use Rattle.dtb_spec.specs.declared.Fault.{Fault}

-- the name of the node that begins at a place
unfoldable pub name_at : List ℕ → ℕ → List ℕ
name_at structure node = before_first (λ b. b == 0) (drop (node + 4) structure)

-- `/` alone, or the names below the root's, each after a `/`
abbrev pub path_of : List ℕ → List ℕ → List ℕ
path_of structure line =
    if nat_lt (length line) 2 then codes "/" else flat_map (λ node. codes "/" ++ name_at structure node) (drop 1 line)

abbrev pub with_token : Token → List Property → List Property
with_token (Prop property) rest = property ∷ rest
with_token Nop rest = rest
with_token (BeginNode name) rest = []
with_token EndNode rest = []
with_token End rest = []

abbrev pub with_read : Result (Token × ℕ) Fault → (ℕ → List Property) → List Property
with_read (Ok t) rest = with_token t.0 (rest t.1)
with_read (Err fault) rest = []

-- the properties that follow each other from a place on, in at most so many tokens
unfoldable pub properties_from : List ℕ → List ℕ → ℕ → ℕ → List Property
properties_from structure strings zero at = []
properties_from structure strings (suc n) at =
    with_read (token_at structure strings at) (properties_from structure strings n)

abbrev pub properties_after : List ℕ → List ℕ → Result (Token × ℕ) Fault → List Property
properties_after structure strings (Ok t) = properties_from structure strings (length structure + 1) t.1
properties_after structure strings (Err fault) = []

-- the properties of the node that begins at a place
abbrev pub properties_of : List ℕ → List ℕ → ℕ → List Property
properties_of structure strings node = properties_after structure strings (token_at structure strings node)

-- the value of the first property of this name
abbrev pub value_among : List ℕ → List ℕ → List Property → Option Span
value_among strings key properties =
    option_map (λ p. p.value) (find (λ p. bytes_eq (span_of strings p.name) key) properties)

unfoldable pub value_of : List ℕ → List ℕ → List ℕ → ℕ → Option Span
value_of structure strings key node = value_among strings key (properties_of structure strings node)
