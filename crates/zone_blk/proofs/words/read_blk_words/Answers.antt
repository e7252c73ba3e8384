-- A faulty word gives its fault, and else the parameters are read. For `read_blk_words`.
use Rattle.std.proofs.Common.{◌∙◌, ap, sym, Ok}
use Rattle.grammar_spec.specs.Words.{ok_unless, texts}
use Rattle.grammar_spec.specs.BlkWords.{params_of}
use Rattle.zone_blk.proofs.words.read_blk_words.Goals as goal

pub returns-in-Some : goal.returns-in-Some
returns-in-Some c = ap (λ fault. ok_unless fault (params_of (texts c.args.words.now)))
    (sym c.in-Some.is ∙ c.first_fault.ensures)

pub returns-in-None : goal.returns-in-None
returns-in-None c = ap Ok c.params.ensures ∙ ap (λ fault. ok_unless fault (params_of (texts c.args.words.now)))
    (sym c.in-None.is ∙ c.first_fault.ensures)
