-- Sizes, parities and order, one after another. For `params`.
use Rattle.std.proofs.Common.{◌∙◌, ap}
use Rattle.grammar_spec.specs.Words.{texts}
use Rattle.grammar_spec.specs.ZoneWords.{with_parities, with_order}
use Rattle.ramoops_layout.proofs.params.params.Goals as goal

pub returns : goal.returns
returns c memory h = c.with_order.ensures
    ∙ ap (with_order (texts c.args.words.now)) (c.with_parities-coded.ensures
    ∙ ap (with_parities (texts c.args.words.now)) (c.with_sizes-sized.ensures memory h))
