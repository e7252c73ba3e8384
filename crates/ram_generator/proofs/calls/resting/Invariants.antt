-- The zones so far are those of the first ones where no call stands. For the loop of `resting`.
use Rattle.std.proofs.Common.{take}
use Rattle.std.specs.List.{All}
use Rattle.ram_generator.specs.Damage.{IsWithin}
use Rattle.ram_generator.proofs.SessionCalls.{AreResting}
use Rattle.ram_generator.proofs.calls.resting.Given as goal

abbrev pub invariant-zones : goal.invariant-zones
invariant-zones l = record {
  resting : AreResting l.live (take l.zone-index l.zones) l.rest.items;
  within : All IsWithin l.rest.items;
}
