-- What is known of the zones after a cut boot
use Rattle.std.specs.Prelude.{◌≡◌, ℕ, ◌-◌, ◌≤◌, Bool, ◌&&◌, ◌||◌, if◌then◌else◌, nat_lt, nat_le, List, length}
use Rattle.std.specs.Prelude.{slice_get, Some, None}
use Rattle.circular_buffer.specs.Buffer.{Buffer}
use Rattle.ramoops.specs.declared.booting.Passed.{Passed}
use Rattle.ramoops.specs.declared.known.KnownZone.{KnownZone}
use Rattle.ramoops.specs.declared.zones.HeldZone.{HeldZone}
use Rattle.ramoops.specs.SeenCut.{cut_of_erasure}

-- of a zone that a boot passed so, and whose list it would keep
abbrev pub parted : Passed → Bool → Buffer ℕ → KnownZone → KnownZone
parted p whole told known =
    if whole || (nat_lt 0 p.left && nat_le p.settled.all p.left) then record { told = Some told; cut = None }
    else (if nat_lt p.settled.erase_at p.left
    then record {
      told = known.told;
      cut = Some (cut_of_erasure p.words (p.left - p.settled.erase_at)
          (p.settled.all - p.settled.erase_at));
    }
    else known)

-- no erasure begins behind a zone's last store
abbrev pub AreInOrder : List Passed → Type 0
AreInOrder passed = (i : ℕ) (p : Passed) → slice_get passed i ≡ Some p → p.settled.erase_at ≤ p.settled.all

-- of each zone
pub record IsParted (passed : List Passed) (whole : Bool) (held : List HeldZone)
    (old new : List KnownZone) : Type 0 where
  pub len : length new ≡ length old
  pub each : (i : ℕ) (p : Passed) (h : HeldZone) (k : KnownZone) → slice_get passed i ≡ Some p
      → slice_get held i ≡ Some h → slice_get old i ≡ Some k
      → slice_get new i ≡ Some (parted p whole h.told k)
