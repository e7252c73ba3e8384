-- A size is what the words give, or the default. For `size`.
use Rattle.std.proofs.Common.{◌∙◌, ap, unwrap_or}
use Rattle.zone_blk.proofs.words.size.Goals as goal

pub returns : goal.returns
returns c = c.from.ensures ∙ c.unwrap_or.ensures ∙ ap (λ found. unwrap_or found c.args.default) c.given.ensures
