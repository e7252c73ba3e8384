-- Both flights keep their zones' 4096 bytes. For the loop of the test `two_appends_interleave`.
use Rattle.std.proofs.Common.{◌≡◌}
use Rattle.zone_tests.proofs.prz_write_tests.two_appends_interleave.Given as goal

abbrev pub invariant-loop-i : goal.invariant-loop-i
invariant-loop-i g l = (l.console.zone.size ≡ 4096) × (l.pmsg.zone.size ≡ 4096)
