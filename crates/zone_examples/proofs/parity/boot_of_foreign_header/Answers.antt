-- The row `boot_of_foreign_header`: the stores of a boot in a zone that reads as another zone's.
-- Computed with `TwoParityBytes`.
use Rattle.std.proofs.Common.{ap, ◌∙◌}
use Rattle.zone_spec.specs.Boot.{boot_stores}
use Rattle.zone_examples.specs.Zones.{console_of_two}
use Rattle.zone_examples.proofs.TwoParityBytes.{foreign-is, foreign-boots}
use Rattle.zone_examples.proofs.parity.boot_of_foreign_header.Goals as goal

pub returns : goal.returns
returns c = ap (boot_stores console_of_two) foreign-is ∙ foreign-boots
