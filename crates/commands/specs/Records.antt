-- The logs of an image, and how a command ends whose record was not found
use Rattle.std.specs.Prelude.{◌≡◌, ℕ, ◌≤◌, List, length, take, Option, IfSome}
use Rattle.zone_spec.specs.declared.Zone.{Zone}
use Rattle.machine_spec.specs.Erasures.{saved_logs}
use Rattle.prz_read.specs.Saving.{SavedLogs, saved}
use Rattle.command_spec.specs.Commands.{after_boot}
use Rattle.command_spec.specs.declared.Stop.{Stop}
use Rattle.command_spec.specs.declared.Stop.TheVariants.{Memory as MemoryStop, Refused as RefusedStop}
use Rattle.ram_session.specs.declared.machine.LineError.{LineError}
use Rattle.ram_session.specs.declared.machine.LineError.TheVariants.{Memory, Refused}

-- the logs that the first boot of the first mem bytes saves, where these are told
pub record SavedFrom (layout : List Zone) (mem : ℕ) (holds : Option (List ℕ)) (logs : SavedLogs) : Type 0 where
  pub image : List ℕ
  pub read : IfSome holds (λ bytes. (mem ≤ length bytes) × (image ≡ take mem bytes))
  pub logs_are : saved logs ≡ saved_logs layout (after_boot layout image)

-- as the second line of a script, behind a boot
abbrev pub stop_for : LineError → Stop
stop_for Memory = MemoryStop
stop_for (Refused cause) = RefusedStop 2 cause
