-- The nodes that the tokens stand for (section 5.4.2). A node is known by the place where it begins
use Rattle.std.specs.Prelude.{ℕ, zero, suc, ◌+◌, ◌-◌, ◌==◌, nat_lt, Bool, true, false, ◌&&◌, if◌then◌else◌, List, []}
use Rattle.std.specs.Prelude.{◌∷◌, ◌++◌, length, take, Result, Ok, Err}
use Rattle.dtb_spec.specs.Cells.{◌>>=◌}
use Rattle.dtb_spec.specs.Tokens.{token_at}
use Rattle.dtb_spec.specs.declared.Token.{Token}
use Rattle.dtb_spec.specs.declared.Token.TheVariants.{BeginNode, EndNode, Prop, Nop, End}
use Rattle.dtb_spec.specs.declared.Fault.{Fault}
use Rattle.dtb_spec.specs.declared.Fault.TheVariants.{EndMissing, PropertyOutside, EndOutside, TooDeep, Roots}

-- how far reading has come: the nodes that are open, from the root on; whether a property may come, as only properties
-- came after the last node's name; whether the root came; and the nodes so far, each as the line of nodes from the root
-- to itself
pub record Point : Type 0 where
  pub at : ℕ
  pub line : List ℕ
  pub may_have : Bool
  pub rooted : Bool
  pub lines : List (List ℕ)

abbrev pub point : ℕ → List ℕ → Bool → Bool → List (List ℕ) → Point
point at line may_have rooted lines =
    record { at = at; line = line; may_have = may_have; rooted = rooted; lines = lines }

-- on from a point, or all nodes
pub data Next : Type 0 where
  On : (p : Point) → Next
  Whole : (lines : List (List ℕ)) → Next

-- the node that begins there is one more
abbrev pub begun : Point → ℕ → Result Next Fault
begun p next =
    if (length p.line == 0) && p.rooted then Err Roots
    else (if nat_lt 63 (length p.line) then Err TooDeep
    else Ok (On (point next (p.line ++ p.at ∷ []) true true (p.lines ++ (p.line ++ p.at ∷ []) ∷ []))))

abbrev pub ended : Point → ℕ → Result Next Fault
ended p next =
    if length p.line == 0 then Err EndOutside
    else Ok (On (point next (take (length p.line - 1) p.line) false p.rooted p.lines))

abbrev pub whole : Point → Result Next Fault
whole p = if length p.line == 0 then (if p.rooted then Ok (Whole p.lines) else Err Roots) else Err EndMissing

abbrev pub follow : Point → Token → ℕ → Result Next Fault
follow p (BeginNode name) next = begun p next
follow p EndNode next = ended p next
follow p (Prop property) next =
    if p.may_have then Ok (On (point next p.line true p.rooted p.lines)) else Err PropertyOutside
follow p Nop next = Ok (On (point next p.line p.may_have p.rooted p.lines))
follow p End next = whole p

abbrev pub step : List ℕ → List ℕ → Point → Result Next Fault
step structure strings p = token_at structure strings p.at >>= (λ t. follow p t.0 t.1)

abbrev pub go_on : (Point → Result (List (List ℕ)) Fault) → Next → Result (List (List ℕ)) Fault
go_on rest (On p) = rest p
go_on rest (Whole lines) = Ok lines

-- the nodes from a point on, in at most so many tokens
unfoldable pub walk : List ℕ → List ℕ → ℕ → Point → Result (List (List ℕ)) Fault
walk structure strings zero p = Err EndMissing
walk structure strings (suc n) p = step structure strings p >>= go_on (walk structure strings n)

-- all nodes, in their order, or the first fault; a token has at least four bytes, so there are no more tokens than
-- bytes
abbrev pub lines_of : List ℕ → List ℕ → Result (List (List ℕ)) Fault
lines_of structure strings = walk structure strings (length structure + 1) (point 0 [] false false [])
