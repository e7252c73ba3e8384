-- Only a script on a shared zone asks for one
use Rattle.std.proofs.Common.{◌≡◌, false, refl}
use Rattle.zone_spec.specs.declared.params.Params.{Params}
use Rattle.command_spec.specs.Commands.{lacks_zone}
use Rattle.command_line.specs.declared.words.RamCommand.{RamCommand}
use Rattle.command_line.specs.declared.words.RamCommand.TheVariants.{Run}
use Rattle.command_line.specs.Words.{ram_command_seen}

pub shares_none : (command : RamCommand) (params : Params) → lacks_zone (ram_command_seen command) params ≡ false
shares_none Run params = refl
shares_none command params = refl
