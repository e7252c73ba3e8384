-- The turns so far are gone through, with at most a call each. For the loop of `turns`.
use Rattle.std.proofs.Common.{◌≤◌}
use Rattle.script_spec.specs.Generated.{turn}
use Rattle.ram_generator.specs.Counting.{Grows}
use Rattle.ram_generator.proofs.Over.{UnderWay}
use Rattle.ram_generator.proofs.rounds.turns.Given as goal

abbrev pub invariant-turns : goal.invariant-turns
invariant-turns l = record {
  many : l.counter ≤ 24;
  grows : Grows l.initial.counts l.counts l.counter;
  made : UnderWay (turn l.plan.zones.items l.q) l.counter 24 l.plan.zones.items l.initial.live l.initial.counts
      l.initial.draws l.live l.counts l.draws;
}
