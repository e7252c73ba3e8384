-- A faulty word gives its fault, and else the parameters are read. For `read_words`.
use Rattle.std.proofs.Common.{◌∙◌, ap, sym, Ok}
use Rattle.grammar_spec.specs.Words.{ok_unless, texts}
use Rattle.grammar_spec.specs.ZoneWords.{defaults, memory_of, params_by}
use Rattle.ramoops_layout.proofs.params.read_words.Goals as goal

pub returns-in-Some : goal.returns-in-Some
returns-in-Some c = ap (λ fault. ok_unless fault (params_by memory_of defaults (texts c.args.words.now)))
    (sym c.in-Some.is ∙ c.first_fault.ensures)

pub returns-in-None : goal.returns-in-None
returns-in-None c = ap Ok (c.params.ensures memory_of c.memory.ensures)
    ∙ ap (λ fault. ok_unless fault (params_by memory_of defaults (texts c.args.words.now)))
    (sym c.in-None.is ∙ c.first_fault.ensures)
