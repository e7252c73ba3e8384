-- What a slice of `u8` holds are bytes. For `check`.
use Rattle.std.proofs.Common.{arith}
use Rattle.ram_generator.proofs.rounds.check.Goals as goal

pub returns : goal.returns
returns c i = omega (arith, c.type_inv.image i)
