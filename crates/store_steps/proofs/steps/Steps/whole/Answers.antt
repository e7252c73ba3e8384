-- The words and runs are those of the append. For `Steps::whole`.
use Rattle.std.proofs.Common.{refl, arith}
use Rattle.store_steps.proofs.WholeRuns.{all_handed}
use Rattle.store_steps.proofs.steps.Steps.whole.Goals as goal

pub returns-clause-stores : goal.returns-clause-stores
returns-clause-stores c =
    all_handed c.args.self.now.zone _ c.args.self.now.words.start c.args.self.now.words.size c.min-len.result
    c.args.payload.now c.requires.some (omega (arith, c.requires.below)) (omega (arith, c.min-len.ensures)) refl
    c.size_after.ensures c.start_after.ensures refl (omega (arith, c.from.ensures))
    (omega (arith, c.min-first.ensures)) refl
