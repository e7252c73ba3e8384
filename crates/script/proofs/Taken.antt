-- The lines of a script, taken one by one
use Rattle.std.proofs.Common.{◌≡◌, ◌<◌, ℕ, List, Option, Some, get_or, length}
use Rattle.std.specs.Iterator.{Yields}
use Rattle.std.specs.Vec.Iter.{into_iter_items, into_iter_len, into_iter_steps}
use Rattle.std.specs.declared.vec.IntoIter.{IntoIter}
use Rattle.std.proofs.lemmas.Iterator.Adapters.{YieldsList-from_vec}
use Rattle.std.proofs.lemmas.Iterator.Consumers.{YieldsList-turn}
use Rattle.grammar_spec.specs.declared.line.Line.{Line}

-- the line that is taken behind so many others is the one at that place
pub line_taken : {Z : Type 0} (lines : List Line) (start : IntoIter Line Z) → into_iter_items start ≡ lines
    → into_iter_len start ≡ length lines → (taken : List Line) (here : IntoIter Line Z)
    → Yields into_iter_steps start taken here → (given : Option Line) (next : IntoIter Line Z) (line : Line)
    → given ≡ Some line → into_iter_steps here given next → (number : ℕ) → number ≡ length taken
    → (number < length lines) × (line ≡ get_or lines number line)
line_taken lines start items len taken here by given next line is steps number counted =
    let turn = YieldsList-turn (YieldsList-from_vec {s = start} lines items len) taken here by given next line is
    steps in
    rw counted turn
