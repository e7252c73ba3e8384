-- One turn more is the session's next, and the counts stay small. For `turns`.
use Rattle.std.proofs.Common.{◌≡◌, ◌+◌, ◌^◌, arith}
use Rattle.script_spec.specs.Generated.{turn}
use Rattle.ram_generator.specs.Turns.{turn_of}
use Rattle.ram_generator.proofs.Over.{way_start, way_more, way_end, grown_both, below_grown}
use Rattle.ram_generator.proofs.RoundCalls.{turn_goes}
use Rattle.ram_generator.proofs.rounds.turns.Goals as goal

pub turns-init : goal.turns-init
turns-init c = record {
  many = omega arith;
  grows = record { calls = omega arith; stores = omega arith; flips = omega arith; as_told = omega arith; differs = omega arith };
  made = way_start (turn c.args.plan.now.zones.items c.args.q) 24 c.args.plan.now.zones.items c.args.live.now
      c.args.counts.now c.args.draws.now;
}

pub make_turn-requires-clause-room : goal.make_turn-requires-clause-room
make_turn-requires-clause-room c = below_grown c.args.counts.now c.turns.counts (2 ^ 30) c.turns.counter (2 ^ 32)
    c.requires.room c.turns.invariant.grows (omega (arith, c.turns.invariant.many))

pub turns-preserved : goal.turns-preserved
turns-preserved c =
    let zones = c.args.plan.now.zones.items in
    record {
      many = omega (arith, c.turns-test.true);
      grows = grown_both c.args.counts.now c.turns.counts c.make_turn.new.counts c.turns.counter 1 (c.turns.counter + 1)
          c.turns.invariant.grows c.make_turn.ensures.grows (omega arith);
      made = way_more (turn zones c.args.q) c.turns.counter 24 zones c.args.live.now c.turns.live c.make_turn.new.live
          c.args.counts.now c.turns.counts c.make_turn.new.counts c.args.draws.now c.turns.draws c.draw_turn.new.draws
          c.turns-test.true
          (turn_goes zones c.args.q c.turns.counter c.turns.draws c.draw_turn.new.draws c.turns.live
          c.make_turn.new.live c.turns.counts c.make_turn.new.counts (turn_of c.in_ok-turn.turn)
          (c.in_ok-turn.ensures.turn zones c.requires.plan.targets) c.make_turn.ensures.made) c.turns.invariant.made;
    }

pub returns-clause-turned : goal.returns-clause-turned
returns-clause-turned c = way_end (turn c.args.plan.now.zones.items c.args.q) c.turns.counter 24
    c.args.plan.now.zones.items c.args.live.now c.turns.live c.args.counts.now c.turns.counts c.args.draws.now
    c.turns.draws (omega (arith, c.turns-test.false, c.turns.invariant.many)) c.turns.invariant.made

pub returns-clause-grows : goal.returns-clause-grows
returns-clause-grows c =
    let all : c.turns.counter ≡ 24 = omega (arith, c.turns-test.false, c.turns.invariant.many) in
    rw all at c.turns.invariant.grows
