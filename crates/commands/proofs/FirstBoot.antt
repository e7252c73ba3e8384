-- The store behind the first boot of an image, and the logs that the boot saves
use Rattle.std.proofs.Common.{◌≡◌, ℕ, ◌≤◌, List, length, take, Option, IfSome}
use Rattle.zone_spec.specs.declared.Zone.{Zone}
use Rattle.machine_spec.specs.States.{OffState, Off as OffOf}
use Rattle.machine_spec.specs.Off.{fresh}
use Rattle.machine_spec.specs.Report.{ZoneReport}
use Rattle.machine_spec.specs.Boot.{booted}
use Rattle.machine_spec.specs.Erasures.{saved_logs}
use Rattle.machine_spec.specs.Operations.{Boot}
use Rattle.machine_laws.proofs.Operations.{fresh_is_sound, operations_keep_states_sound}
use Rattle.prz_read.specs.Saving.{SavedLogs, saved}
use Rattle.ramoops.specs.OffSeen.{OffSeen, StandsOff}
use Rattle.ramoops.specs.LiveSeen.{LiveSeen}
use Rattle.ramoops.specs.Booted.{Booted}
use Rattle.ram_session.specs.Playing.{StandsFresh}
use Rattle.commands.specs.Stores.{BootedFrom}
use Rattle.commands.specs.Records.{SavedFrom}

pub booted_from : (layout : List Zone) (mem size : ℕ) (holds : Option (List ℕ)) (image : List ℕ) (off : OffSeen)
    (live : LiveSeen) (logs : SavedLogs) (told : List ZoneReport) → size ≡ mem
    → IfSome holds (λ bytes. (size ≤ length bytes) × (image ≡ take size bytes)) → StandsFresh layout mem image off
    → ((layout : List Zone) (mem : ℕ) (s : OffState) → StandsOff layout mem off s
    → Booted layout mem s live (saved logs) told) → BootedFrom layout mem holds live logs
booted_from layout mem size holds image off live logs told same read f boots =
    let b = boots layout mem (fresh layout image) f.stands in
    let sound = fresh_is_sound layout mem image f.lies f.size f.bytes in
    record {
      image = image;
      read = rw same at read;
      lies = f.lies;
      stands = b.live;
      logs_are = b.logs;
      state = operations_keep_states_sound layout mem (OffOf (fresh layout image)) Boot f.lies sound tt;
    }

pub saved_from_read : (layout : List Zone) (mem size : ℕ) (holds : Option (List ℕ)) (image : List ℕ) (off : OffSeen)
    (logs : SavedLogs) → size ≡ mem → IfSome holds (λ bytes. (size ≤ length bytes) × (image ≡ take size bytes))
    → StandsFresh layout mem image off → ((layout : List Zone) (mem : ℕ) (s : OffState) → StandsOff layout mem off s
    → saved logs ≡ saved_logs layout (booted layout s)) → SavedFrom layout mem holds logs
saved_from_read layout mem size holds image off logs same read f saves = record {
  image = image;
  read = rw same at read;
  logs_are = saves layout mem (fresh layout image) f.stands;
}
