-- The runs compute
use Rattle.std.proofs.Common.{refl}
use Rattle.report_html.specs.Pictures.{runs, with_block}
use Rattle.report_html.proofs.laws.six_blocks_make_four_runs.Goals as goal

pub returns : goal.returns
unfolding runs with_block
returns c = refl
