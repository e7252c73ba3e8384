-- The runs of the blocks cover them in order, none is empty, and each block reads as its run does.
-- By `RunsOfBlocks`.
use Rattle.report_html.proofs.RunsOfBlocks.{cover, states}
use Rattle.report_html.proofs.laws.runs_cover_the_blocks.Goals as goal

pub returns-clause-cover : goal.returns-clause-cover
returns-clause-cover c = cover

pub returns-clause-states : goal.returns-clause-states
returns-clause-states c = states
