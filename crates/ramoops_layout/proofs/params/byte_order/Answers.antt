-- The order of bytes is the one at the place that the words give, or what stands without one. For `byte_order`.
use Rattle.std.proofs.Common.{◌∙◌, ap, sym, unwrap_or}
use Rattle.std.specs.Option.{option_map}
use Rattle.grammar_spec.specs.ZoneWords.{byte_order_at}
use Rattle.ramoops_layout.proofs.params.byte_order.Goals as goal

pub returns-in-Some : goal.returns-in-Some
returns-in-Some c = c.byte_order_at.ensures
    ∙ ap (λ found. unwrap_or (option_map byte_order_at found) c.args.absent) (sym c.in-Some.is ∙ c.given.ensures)

pub returns-in-None : goal.returns-in-None
returns-in-None c = ap (λ found. unwrap_or (option_map byte_order_at found) c.args.absent)
    (sym c.in-None.is ∙ c.given.ensures)
