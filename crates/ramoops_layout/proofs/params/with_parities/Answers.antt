-- The parity bytes of each kind are those of its key, or its default. For `with_parities`.
use Rattle.ramoops_layout.proofs.params.with_parities.Goals as goal

pub returns : goal.returns
returns c = cc
