-- The rounds so far are gone through, with at most 27 calls each. For the loop of `rounds`.
use Rattle.std.proofs.Common.{◌≤◌, ◌*◌}
use Rattle.script_spec.specs.Generated.{round}
use Rattle.ram_generator.specs.Counting.{AreBelow}
use Rattle.ram_generator.proofs.Over.{UnderWay}
use Rattle.ram_generator.proofs.rounds.rounds.Given as goal

abbrev pub invariant-rounds : goal.invariant-rounds
invariant-rounds l = record {
  many : l.q ≤ 8;
  below : AreBelow l.counts (27 * l.q);
  made : UnderWay (round l.plan.zones.items) l.q 8 l.plan.zones.items l.initial.live l.initial.counts l.initial.draws
      l.live l.counts l.draws;
}
