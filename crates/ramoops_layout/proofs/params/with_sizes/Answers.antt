-- Each size is that of its key, or its default. For `with_sizes`.
use Rattle.ramoops_layout.proofs.params.with_sizes.Goals as goal

pub returns : goal.returns
returns c memory h = cc
