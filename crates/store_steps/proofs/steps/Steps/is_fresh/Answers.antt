-- A state that passes as fresh is a call before its first store, and is kept. For `is_fresh`.
use Rattle.std.proofs.Common.{arith}
use Rattle.store_steps.specs.Flying.{flying}
use Rattle.store_steps.proofs.HandOut.{line_short}
use Rattle.store_steps.specs.Calls.{call_of}
use Rattle.store_steps.proofs.Small.{total_small}
use Rattle.store_steps.proofs.CallBegin.{fresh_kept}
use Rattle.store_steps.proofs.steps.Steps.is_fresh.Goals as goal

pub returns-clause-kept : goal.returns-clause-kept
returns-clause-kept c = λ fresh.
    fresh_kept (flying c.args.self.now c.args.line.now c.args.payload.now) fresh c.requires.valid
    (line_short c.args.self.now.kind c.args.line.now c.args.payload.now c.requires.line)
    (total_small c.args.self.now.zone c.args.self.now.words
    (call_of c.args.self.now.kind c.args.line.now c.args.payload.now) c.requires.valid fresh.is_open
    (line_short c.args.self.now.kind c.args.line.now c.args.payload.now c.requires.line))
