-- The words passed over don't give the key. For the loop of `value`.
use Rattle.std.proofs.Common.{◌≡◌, drop}
use Rattle.ramoops_layout.specs.Keys.{table_of}
use Rattle.grammar_spec.specs.Words.{value_text, texts}
use Rattle.ramoops_layout.proofs.words.Keys.value.Given as goal

-- the words passed over don't give the key
abbrev pub invariant-loop-word : goal.invariant-loop-word
invariant-loop-word l =
    value_text (table_of l.self) (texts l.words) l.key
    ≡ value_text (table_of l.self) (texts (drop l.word-index l.words)) l.key
