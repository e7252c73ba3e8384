-- All that a boot reads of the zones of a sound state
use Rattle.std.proofs.Common.{ℕ, List}
use Rattle.zone_spec.specs.declared.Zone.{Zone}
use Rattle.zone_spec.specs.Zones.{IsValidZone}
use Rattle.zone_spec.specs.Parts.{IsImage}
use Rattle.machine_spec.specs.Zones.{zone_bytes}
use Rattle.machine_spec.specs.States.{OffZone}
use Rattle.machine_spec.specs.Sound.{IsOffZone}
use Rattle.damage_laws.proofs.Within.{part_reads, idle_zone_reads_told}
use Rattle.machine_laws.specs.ZoneReads.{ReadsZone, SoundStateReadsZones}
use Rattle.machine_laws.proofs.OffStates.{off_bytes}
use Rattle.machine_laws.proofs.LastWritten.{zone_reads}
use Rattle.machine_laws.proofs.Sessions.{zone_undamaged}
use Rattle.machine_laws.proofs.Logs.{log_bytes_come}
use Rattle.machine_laws.proofs.Boots.{zone_cuts, zone_reports}

reads_zone : (z : Zone) (zone : OffZone) (now : List ℕ) → IsValidZone z → IsOffZone z zone → IsImage z now
    → ReadsZone z zone now
reads_zone z zone now valid sound hn = record {
  last_written = zone_reads z zone now valid sound hn;
  parts = λ part own within. part_reads z zone.stop now part valid sound.size hn within;
  idle = λ told t c head. idle_zone_reads_told z zone.stop now told valid sound.size hn (sound.idle told t c) head;
  as_at_stop = zone_undamaged z zone now valid sound hn;
  bytes = log_bytes_come z now valid hn.0;
  cut = zone_cuts z zone now valid sound hn;
  reported = zone_reports z zone now valid sound;
}

pub sound_state_reads_zones : SoundStateReadsZones
sound_state_reads_zones layout mem off lies state = (
  state.zones.0,
  λ i z zone hz hv. reads_zone z zone (zone_bytes z off.image) (lies.valid i z hz).0
      (state.zones.1 i z zone hz hv) (off_bytes layout mem lies off state i z hz),
)
