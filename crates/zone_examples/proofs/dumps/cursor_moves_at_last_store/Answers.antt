-- The row `cursor_moves_at_last_store`: the cursor moves with a dump's last store, and a boot sets
-- it back. The checker computes it.
use Rattle.std.proofs.Common.{refl}
use Rattle.zone_examples.proofs.Unfoldings.{computing_all}
use Rattle.zone_examples.proofs.dumps.cursor_moves_at_last_store.Goals as goal

pub returns : goal.returns
unfolding computing_all
returns c = (refl, refl, refl, refl, refl)
