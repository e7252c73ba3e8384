-- A machine that is off stands for a sound state: as it is made, and after a flip
use Rattle.std.proofs.Common.{◌≡◌, ℕ, ◌<◌, List, length, refl, ◌∙◌, ap, subst}
use Rattle.std.specs.Prelude.{slice_index, slice_set, bit_xor, None}
use Rattle.std.specs.Option.{option_map}
use Rattle.std.proofs.lemmas.List.{length-map}
use Rattle.zone_spec.specs.declared.Zone.{Zone}
use Rattle.zone_spec.specs.Parts.{AreBytes}
use Rattle.zone_spec.specs.Layouts.{IsLayout}
use Rattle.machine_spec.specs.Zones.{zone_bytes}
use Rattle.machine_spec.specs.States.{OffZone, OffState}
use Rattle.machine_spec.specs.Off.{fresh, flipped}
use Rattle.machine_laws.proofs.OffStates.{fresh-state, flipped-state}
use Rattle.machine_laws.proofs.Lists.{get-map}
use Rattle.ramoops.specs.declared.known.KnownZone.{KnownZone}
use Rattle.ramoops.specs.OffSeen.{OffSeen, StandsForKnown, StandsOff, AreUnknown}
use Rattle.ramoops.specs.Resting.{IsResting}

module _ (layout : List Zone) (mem : ℕ) (image : List ℕ) (known : List KnownZone)
    (len : length known ≡ length layout) (none : AreUnknown known) where
  pub fresh_stands : StandsOff layout mem (record { layout = layout; mem = mem; image = image; zones = known })
      (fresh layout image)
  fresh_stands = record {
    same_layout = refl;
    same_mem = refl;
    image = refl;
    kept = len;
    count = length-map layout (λ (z : Zone). record { stop = zone_bytes z image; told = None; cut = None });
    zones = λ i z k zone ez ek eo.
        let is : record { stop = zone_bytes z image; told = None; cut = None } ≡ zone =
        get-map (λ (y : Zone). record { stop = zone_bytes y image; told = None; cut = None }) layout i z zone ez eo in
        subst (λ (o : OffZone). StandsForKnown z k o) is (record {
          told = ap (option_map (λ t. t.items)) (none i k ek).0;
          cut = (none i k ek).1;
        });
  }

  pub fresh_rests : IsLayout layout mem → length image ≡ mem → AreBytes image
      → IsResting (record { layout = layout; mem = mem; image = image; zones = known })
  fresh_rests lies size bytes = record {
    lies = lies;
    state = fresh layout image;
    stands = fresh_stands;
    sound = fresh-state layout mem lies image size bytes;
  }

pub flipped_stands : (layout : List Zone) (mem : ℕ) (v : OffSeen) (s : OffState) (place mask : ℕ) (image : List ℕ)
    → image ≡ slice_set v.image place (bit_xor (slice_index v.image place) mask) → StandsOff layout mem v s
    → StandsOff layout mem (record v { image = image }) (flipped s place mask)
flipped_stands layout mem v s place mask image is stands = record {
  same_layout = stands.same_layout;
  same_mem = stands.same_mem;
  image = is ∙ ap (λ (b : List ℕ). slice_set b place (bit_xor (slice_index b place) mask)) stands.image;
  kept = stands.kept;
  count = stands.count;
  zones = stands.zones;
}

pub flipped_rests : (v : OffSeen) (place mask : ℕ) (image : List ℕ) → mask < 256
    → image ≡ slice_set v.image place (bit_xor (slice_index v.image place) mask) → IsResting v
    → IsResting (record v { image = image })
flipped_rests v place mask image small is rest = record {
  lies = rest.lies;
  state = flipped rest.state place mask;
  stands = flipped_stands v.layout v.mem v rest.state place mask image is rest.stands;
  sound = flipped-state v.layout v.mem rest.lies rest.state place mask small rest.sound;
}
