-- A state off is sound after a stop, a flip and at first, and so is the live state after a boot
use Rattle.std.proofs.Common.{◌≡◌, ℕ, ◌+◌, ◌<◌, ◌≤◌, List, length, slice_get, get_or, refl, sym, ap, ◌∙◌, subst, arith}
use Rattle.std.proofs.Common.{Option, Some, None, length-set, length-drop}
use Rattle.std.proofs.lemmas.Nat.{xor_lt}
use Rattle.std.specs.Option.{option_map}
use Rattle.zone_spec.specs.declared.Zone.{Zone}
use Rattle.zone_spec.specs.Parts.{AreBytes, IsImage}
use Rattle.zone_spec.specs.Ring.{IsRingForm}
use Rattle.zone_spec.specs.Cut.{Cut, ByCall, ByBoot}
use Rattle.ring_laws.proofs.PartsLaw.{set-bytes}
use Rattle.ring_laws.proofs.EveryParity.{part-bytes}
use Rattle.zone_spec.specs.Layouts.{zones_end, IsLayout}
use Rattle.machine_spec.specs.Zones.{zone_bytes}
use Rattle.machine_spec.specs.States.{Flight, OffState, LiveZone, LiveState, Off, Live}
use Rattle.machine_spec.specs.Off.{fresh, flipped}
use Rattle.machine_spec.specs.Stop.{cut_of, zone_stopped, stopped}
use Rattle.machine_spec.specs.Boot.{booted_zone, booted}
use Rattle.machine_spec.specs.Sound.{Stands, IsLiveZone, IsOffZone, IsMemory, IsState}
use Rattle.machine_laws.proofs.Lists.{each-zip-map, each-map, zone_within}
use Rattle.machine_laws.proofs.Zones.{zone_image, booted-sound}
use Rattle.machine_laws.proofs.LiveStates.{live_state}

module _ (layout : List Zone) (mem : ℕ) (lies : IsLayout layout mem) where
  pub memory_fits : (image : List ℕ) → IsMemory mem image → (i : ℕ) (z : Zone) → slice_get layout i ≡ Some z
      → z.at + z.size ≤ length image
  memory_fits image memory i z h = omega (arith, (lies.valid i z h).1, zone_within layout i z h, lies.within, memory.0)

  pub memory_bytes : (image : List ℕ) → IsMemory mem image → (i : ℕ) (z : Zone) → slice_get layout i ≡ Some z
      → IsImage z (zone_bytes z image)
  memory_bytes image memory i z h = zone_image z (lies.valid i z h).0 image (memory_fits image memory i z h) memory.1

  pub off_bytes : (off : OffState) → IsState layout mem (Off off) → (i : ℕ) (z : Zone) → slice_get layout i ≡ Some z
      → IsImage z (zone_bytes z off.image)
  off_bytes off state i z h = memory_bytes off.image state.image i z h

  pub stopped-state : (live : LiveState) → IsState layout mem (Live live)
      → IsState layout mem (Off (stopped layout live))
  stopped-state live state = record {
    zones = each-zip-map layout live.zones IsLiveZone IsOffZone zone_stopped
        (λ i z v hz hv sound. by z v v.flight sound refl) state.zones;
    image = state.image;
  }
    where
      by : (z : Zone) (v : LiveZone) (o : Option Flight) → IsLiveZone z v → v.flight ≡ o
          → IsOffZone z (record { stop = v.image; told = Some v.told; cut = option_map (cut_of z) v.flight })
      by z v None sound e = subst (λ p. IsOffZone z (record
          { stop = v.image; told = Some v.told; cut = option_map (cut_of z) p })) (sym e) (record {
            size = sound.size;
            idle = λ told t c. (let s : v.told ≡ told = cc in subst (IsRingForm z v.image) s
                (subst (Stands z v.image v.told) e sound.stands));
            in_flight = λ cut call c b. (let n : None ≡ Some cut = c in cc);
            in_erasure = λ cut c b. (let n : None ≡ Some cut = c in cc);
          })
      by z v (Some f) sound e = subst (λ p. IsOffZone z (record
          { stop = v.image; told = Some v.told; cut = option_map (cut_of z) p })) (sym e) (record {
            size = sound.size;
            idle = λ told t c. (let n : Some (cut_of z f) ≡ None = c in cc);
            in_flight = λ cut call c b. (
              v.told,
              f,
              record {
                told_is = refl;
                cut_is = (let s : cut_of z f ≡ cut = cc in sym s);
                at_stop = subst (Stands z v.image v.told) e sound.stands;
              },
            );
            in_erasure = λ cut c b. (let s : cut_of z f ≡ cut = cc in
                let n : ByCall f.call ≡ ByBoot = ap (λ (k : Cut). k.by) s ∙ b in cc);
          })

  pub booted-state : (off : OffState) → IsState layout mem (Off off) → IsState layout mem (Live (booted layout off))
  booted-state off state =
      live_state layout mem lies (booted layout off)
      (each-map layout IsLiveZone (booted_zone off.image)
      (λ i z h. booted-sound z (lies.valid i z h).0 off.image (memory_fits off.image state.image i z h) state.image.1))
      (omega (arith, lies.within, state.image.0, length-drop (zones_end layout) off.image))
      (part-bytes (zones_end layout) off.image state.image.1).1

  pub flipped-state : (off : OffState) (place mask : ℕ) → mask < 256 → IsState layout mem (Off off)
      → IsState layout mem (Off (flipped off place mask))
  flipped-state off place mask small state = record {
    zones = state.zones;
    image = (
      length-set off.image place _ ∙ state.image.0,
      set-bytes off.image place _ state.image.1 (xor_lt 8 (get_or off.image place 0) mask (state.image.1 place)
          small),
    );
  }

  pub fresh-state : (image : List ℕ) → length image ≡ mem → AreBytes image
      → IsState layout mem (Off (fresh layout image))
  fresh-state image len bytes = record {
    zones = each-map layout IsOffZone (λ z. record { stop = zone_bytes z image; told = None; cut = None })
        (λ i z h. record {
          size = zone_image z (lies.valid i z h).0 image (omega
              (arith, (lies.valid i z h).1, zone_within layout i z h, lies.within, len)) bytes;
          idle = λ told t c. (let n : None ≡ Some told = t in cc);
          in_flight = λ cut call c b. (let n : None ≡ Some cut = c in cc);
          in_erasure = λ cut c b. (let n : None ≡ Some cut = c in cc);
        });
    image = (len, bytes);
  }
