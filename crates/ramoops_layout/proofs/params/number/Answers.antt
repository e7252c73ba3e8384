-- A number is that of its key, or what stands without one. For `number`.
use Rattle.std.proofs.Common.{◌∙◌, ap, sym, unwrap_or}
use Rattle.ramoops_layout.proofs.params.number.Goals as goal

pub returns-in-Some : goal.returns-in-Some
returns-in-Some c = c.from.ensures ∙ ap (λ found. unwrap_or found c.args.absent) (sym c.in-Some.is ∙ c.given.ensures)

pub returns-in-None : goal.returns-in-None
returns-in-None c = ap (λ found. unwrap_or found c.args.absent) (sym c.in-None.is ∙ c.given.ensures)
