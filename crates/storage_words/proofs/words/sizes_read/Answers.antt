-- A faulty word gives its fault, and else the sizes are read. For `sizes_read`.
use Rattle.std.proofs.Common.{◌∙◌, ap, sym, Ok}
use Rattle.grammar_spec.specs.Words.{ok_unless, texts}
use Rattle.storage_words.specs.Words.{sizes_of}
use Rattle.storage_words.proofs.words.sizes_read.Goals as goal

pub returns-in-Some : goal.returns-in-Some
returns-in-Some c = ap (λ fault. ok_unless fault (sizes_of (texts c.args.words.now)))
    (sym c.in-Some.is ∙ c.first_fault.ensures)

pub returns-in-None : goal.returns-in-None
returns-in-None c = ap Ok c.sizes.ensures ∙ ap (λ fault. ok_unless fault (sizes_of (texts c.args.words.now)))
    (sym c.in-None.is ∙ c.first_fault.ensures)
