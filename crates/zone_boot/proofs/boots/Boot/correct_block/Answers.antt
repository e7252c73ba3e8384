-- A block that was decoded reads as these bytes. For `correct_block`.
use Rattle.std.proofs.Common.{◌∙◌}
use Rattle.zone_boot.proofs.boots.Boot.correct_block.Goals as goal

pub fix_block-requires-clause-reads : goal.fix_block-requires-clause-reads
fix_block-requires-clause-reads c = c.as_slice.ensures.value ∙ c.read_block-outcome.ensures.data
