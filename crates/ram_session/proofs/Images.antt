-- The image of a machine
use Rattle.std.proofs.Common.{◌≡◌, ℕ, List, ◌∙◌}
use Rattle.zone_spec.specs.declared.Zone.{Zone}
use Rattle.machine_spec.specs.States.{LiveState, Session, Off as OffOf, Live as LiveOf}
use Rattle.machine_spec.specs.Stop.{live_image as image_of, session_image}
use Rattle.prz_read.specs.Saving.{SavedLogs}
use Rattle.ramoops.specs.OffSeen.{OffSeen}
use Rattle.ramoops.specs.LiveSeen.{LiveSeen, StandsLive}
use Rattle.ram_session.specs.Sessions.{Stands}
use Rattle.ram_session.specs.Machines.{store_of}
use Rattle.ram_session.specs.declared.kernel.Kernel.{Kernel}
use Rattle.ram_session.specs.declared.machine.Machine.{Machine}
use Rattle.ram_session.specs.declared.machine.Machine.TheVariants.{Off, Live}

-- bytes are the image of each state for which the machine stands
abbrev pub IsImageOf : Machine → List ℕ → Type 0
IsImageOf machine bytes = (layout : List Zone) (mem : ℕ) (s : Session) → Stands layout mem (store_of machine) s
    → bytes ≡ session_image s

pub off_image : (off : OffSeen) (bytes : List ℕ) → bytes ≡ off.image → IsImageOf (Off off) bytes
off_image off bytes same layout mem (OffOf s) stands = same ∙ stands.image
off_image off bytes same layout mem (LiveOf s) stands = absurd stands

pub live_image : (live : LiveSeen) (logs : SavedLogs) (kernel : Kernel) (bytes : List ℕ)
    → ((layout : List Zone) (mem : ℕ) (s : LiveState) → StandsLive layout mem live s → bytes ≡ image_of s)
    → IsImageOf (Live live logs kernel) bytes
live_image live logs kernel bytes same layout mem (OffOf s) stands = absurd stands
live_image live logs kernel bytes same layout mem (LiveOf s) stands = same layout mem s stands.0
