-- The words passed over have no fault, and each gives a key of its own. For the loop of
-- `first_fault`.
use Rattle.std.proofs.Common.{◌≡◌, ◌≤◌, take, drop, []}
use Rattle.ramoops_layout.specs.Keys.{table_of}
use Rattle.grammar_spec.specs.Words.{first_fault, texts}
use Rattle.ramoops_layout.proofs.DistinctKeys.{keys_in}
use Rattle.ramoops_layout.proofs.words.Keys.first_fault.Given as goal

-- the words passed over have no fault, and each gives a key of its own
abbrev pub invariant-loop-i : goal.invariant-loop-i
invariant-loop-i l = record {
  faults : first_fault (table_of l.self) [] (texts l.words)
      ≡ first_fault (table_of l.self) (texts (take l.i l.words)) (texts (drop l.i l.words));
  apart : l.i ≤ keys_in (table_of l.self) (texts (take l.i l.words));
}
