-- One round more is the session's next, and the counts stay small. For `rounds`.
use Rattle.std.proofs.Common.{◌+◌, ◌*◌, arith}
use Rattle.script_spec.specs.Generated.{round}
use Rattle.ram_generator.proofs.Over.{way_start, way_more, way_end, below_grown}
use Rattle.ram_generator.proofs.rounds.rounds.Goals as goal

pub rounds-init : goal.rounds-init
rounds-init c = record {
  many = omega arith;
  below = c.requires.room;
  made = way_start (round c.args.plan.now.zones.items) 8 c.args.plan.now.zones.items c.args.live c.args.counts.now
      c.args.draws.now;
}

pub rounds-preserved : goal.rounds-preserved
rounds-preserved c = record {
  many = omega (arith, c.rounds-test.true);
  below = below_grown c.rounds.counts c.round.new.counts (27 * c.rounds.q) 27 (27 * (c.rounds.q + 1))
      c.rounds.invariant.below c.in_ok-live.ensures.grows (omega arith);
  made = way_more (round c.args.plan.now.zones.items) c.rounds.q 8 c.args.plan.now.zones.items c.args.live c.rounds.live
      c.in_ok-live.live c.args.counts.now c.rounds.counts c.round.new.counts c.args.draws.now c.rounds.draws
      c.round.new.draws c.rounds-test.true c.in_ok-live.ensures.round c.rounds.invariant.made;
}

pub returns : goal.returns
returns c = way_end (round c.args.plan.now.zones.items) c.rounds.q 8 c.args.plan.now.zones.items c.args.live
    c.rounds.live c.args.counts.now c.rounds.counts c.args.draws.now c.rounds.draws
    (omega (arith, c.rounds-test.false, c.rounds.invariant.many)) c.rounds.invariant.made
