-- The first run ends within the zone's blocks. For `first_end`.
use Rattle.std.proofs.Common.{◌+◌, ◌≤◌, sym, subst, arith}
use Rattle.store_steps.proofs.PhaseStores.{end_in}
use Rattle.store_steps.proofs.steps.Steps.first_end.Goals as goal

pub returns-clause-within : goal.returns-clause-within
returns-clause-within c = subst (λ n. n ≤ c.args.self.now.zone.blocks) (sym c.whole_blocks.ensures)
    (end_in c.args.self.now.zone (c.args.self.now.place.start + c.first_len.result) c.requires.valid
    (omega (arith, c.first_len.ensures)))
