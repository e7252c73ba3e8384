-- The store of an image that was read
use Rattle.std.specs.Prelude.{◌≡◌, false, ℕ, ◌≤◌, List, length, take, Option, IfSome}
use Rattle.zone_spec.specs.declared.params.Params.{Params}
use Rattle.zone_spec.specs.declared.Zone.{Zone}
use Rattle.zone_spec.specs.Layouts.{IsLayout}
use Rattle.machine_spec.specs.States.{Live}
use Rattle.machine_spec.specs.Sound.{IsState}
use Rattle.machine_spec.specs.Erasures.{saved_logs}
use Rattle.machine_spec.specs.Stop.{stopped}
use Rattle.prz_read.specs.Saving.{SavedLogs, saved}
use Rattle.ramoops.specs.LiveSeen.{LiveSeen, StandsLive}
use Rattle.shared_spec.specs.Histories.{CanOpen}
use Rattle.script_spec.specs.SharedScripts.{shared_name, lacks_plain_ftrace}
use Rattle.command_spec.specs.Commands.{after_boot}

-- the store behind the first boot of the first mem bytes, where these are told
pub record BootedFrom (layout : List Zone) (mem : ℕ) (holds : Option (List ℕ)) (live : LiveSeen)
    (logs : SavedLogs) : Type 0 where
  pub image : List ℕ
  pub read : IfSome holds (λ bytes. (mem ≤ length bytes) × (image ≡ take mem bytes))
  pub lies : IsLayout layout mem
  pub stands : StandsLive layout mem live (after_boot layout image)
  pub logs_are : saved logs ≡ saved_logs layout (after_boot layout image)
  pub state : IsState layout mem (Live (after_boot layout image))

-- the image of a session `boot`, `stop`, in which ftrace-0 can be shared if it has no parity
pub record IsBooted (p : Params) (zones : List Zone) (image bytes : List ℕ) : Type 0 where
  pub is : bytes ≡ (stopped zones (after_boot zones image)).image
  pub size : length bytes ≡ p.mem
  pub can : lacks_plain_ftrace p ≡ false → CanOpen zones shared_name bytes
