-- The flight's zone keeps its 4096 bytes. For the loop of the test's `steps`.
use Rattle.std.proofs.Common.{◌≡◌}
use Rattle.zone_tests.proofs.prz_write_tests.steps.Given as goal

abbrev pub invariant-loop : goal.invariant-loop
invariant-loop g l = l.flight.zone.size ≡ 4096
