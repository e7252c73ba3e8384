-- A size is what the words give, or the default. For `size`.
use Rattle.std.proofs.Common.{◌∙◌, ap, unwrap_or}
use Rattle.storage_words.specs.Words.{size_of}
use Rattle.storage_words.proofs.words.size.Goals as goal

pub returns : goal.returns
returns c = c.size_of.ensures
    ∙ ap size_of (c.unwrap_or.ensures ∙ ap (λ found. unwrap_or found c.args.absent) c.given.ensures)
