-- Big by the definition. For `turned`.
use Rattle.std.proofs.Common.{ap, sym, ◌∙◌}
use Rattle.zone_spec.specs.WordBytes.{turned}
use Rattle.zone_spec.proofs.params.ByteOrder.turned.Goals as goal

pub returns-in-Little : goal.returns-in-Little
returns-in-Little c = search

pub returns-in-Big : goal.returns-in-Big
returns-in-Big c = c.swap_bytes.ensures ∙ ap (λ order. turned order c.args.word) (sym c.in-Big.is)
