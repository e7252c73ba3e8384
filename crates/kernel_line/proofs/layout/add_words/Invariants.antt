-- Those of the words so far that are of the layout are added. For the loop of `add_words`.
use Rattle.std.proofs.Common.{◌≡◌, ◌++◌, take}
use Rattle.std.specs.List.{filter}
use Rattle.grammar_spec.specs.Words.{texts}
use Rattle.kernel_line.specs.Line.{is_of}
use Rattle.kernel_line.proofs.layout.add_words.Given as goal

abbrev pub invariant-loop-word : goal.invariant-loop-word
invariant-loop-word l =
    texts l.words.items ≡ texts l.initial.words.items ++ filter (is_of l.which) (take l.word-index l.read)
