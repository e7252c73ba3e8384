-- The words so far, and the parts that are left.
use Rattle.std.proofs.Common.{◌≡◌, ◌++◌, map, drop}
use Rattle.grammar_spec.specs.Words.{texts}
use Rattle.report_entry.proofs.words.owned.Given as goal

abbrev pub invariant-loop-part : goal.invariant-loop-part
invariant-loop-part l = texts l.words.items ++ map (λ x. x.now) (drop l.part-index l.parts) ≡ map (λ x. x.now) l.parts
