-- Two whole blocks lie below the size, so both can be tested and read; the front is then two
-- blocks longer. For the loop of `push_pairs`.
use Rattle.std.proofs.Common.{arith, ◌∙◌}
use Rattle.ring_laws.proofs.PartsLaw.{block_some}
use Rattle.prz_read.proofs.BlockList.{pair-room, next-pair}
use Rattle.prz_read.proofs.reading.Front.push_pairs.Goals as goal

pub excess_pair-first-requires-clause-blocks : goal.excess_pair-first-requires-clause-blocks
excess_pair-first-requires-clause-blocks c =
    let room = pair-room c.args.zone.now.block c.args.size c.loop-pair.pair c.args.count
    (block_some c.args.zone.now c.requires.valid) c.loop-pair-test.true c.requires.whole in
    let within = c.requires.within in
    omega (arith, room.0, within)

pub push-requires-clause-block : goal.push-requires-clause-block
push-requires-clause-block c =
    (pair-room c.args.zone.now.block c.args.size c.loop-pair.pair c.args.count
    (block_some c.args.zone.now c.requires.valid) c.loop-pair-test.true c.requires.whole).1

pub push-requires-in-loop-pair-clause-block : goal.push-requires-in-loop-pair-clause-block
push-requires-in-loop-pair-clause-block c =
    (pair-room c.args.zone.now.block c.args.size c.loop-pair.pair c.args.count
    (block_some c.args.zone.now c.requires.valid) c.loop-pair-test.true c.requires.whole).2

pub loop-pair-preserved : goal.loop-pair-preserved
loop-pair-preserved c = (
  next-pair c.args.zone.now c.args.span.now c.args.size c.loop-pair.pair _ c.in_ok-push-2.ensures.reads,
  c.in_ok-push-2.ensures.wanted ∙ c.in_ok-push.ensures.wanted ∙ c.loop-pair.invariant.1,
)
