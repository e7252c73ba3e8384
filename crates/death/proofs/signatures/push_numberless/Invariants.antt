-- What is shown of the bytes so far, and of those from here, is the text without numbers. For the loop of
-- `push_numberless`.
use Rattle.std.proofs.Common.{◌≡◌, ◌++◌, drop}
use Rattle.death_spec.specs.declared.Piece.TheVariants.{Between}
use Rattle.death_spec.specs.Signatures.{numberless}
use Rattle.death.proofs.signatures.push_numberless.Given as goal

abbrev pub invariant-loop-b : goal.invariant-loop-b
invariant-loop-b l =
    (l.fn.signature.items ++ numberless Between l.text)
    ≡ l.signature.items ++ numberless l.before (drop l.b-index l.text)
