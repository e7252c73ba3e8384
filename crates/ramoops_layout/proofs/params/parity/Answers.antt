-- The parity bytes are those of a key, or what stands without one. For `parity`.
use Rattle.std.proofs.Common.{◌∙◌, ap, unwrap_or}
use Rattle.ramoops_layout.proofs.params.parity.Goals as goal

pub returns : goal.returns
returns c = c.unwrap_or.ensures ∙ ap (λ found. unwrap_or found c.args.absent) c.parity_given.ensures
