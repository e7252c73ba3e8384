-- Each step of a zone keeps it in ring form, or the image after so many stores of its flight
use Rattle.std.proofs.Common.{◌≡◌, ℕ, ◌+◌, ◌-◌, ◌≤◌, Bool, true, false, cond, ◌==◌, nat_lt, List, length, drop, refl}
use Rattle.std.proofs.Common.{subst, arith, Option, Some, None, ltb-true, length-take, length-drop}
use Rattle.std.proofs.lemmas.Bool.Decides.{nat_tests}
use Rattle.zone_spec.specs.declared.Zone.{Zone}
use Rattle.zone_spec.specs.Zones.{IsValidZone}
use Rattle.zone_spec.specs.Told.{Call, Erase, told_after}
use Rattle.zone_spec.specs.Stores.{after_stores}
use Rattle.zone_spec.specs.Calls.{call_stores, image_after, CanBegin}
use Rattle.zone_spec.specs.declared.Name.{Name}
use Rattle.zone_spec.specs.Notices.{is_in}
use Rattle.machine_spec.specs.States.{LiveZone, Flight}
use Rattle.machine_spec.specs.ZoneCalls.{begun, stepped, stepped_by, finished, stores_left, total_stores}
use Rattle.machine_spec.specs.Erasures.{erase_zone}
use Rattle.machine_spec.specs.Zones.{zone_bytes}
use Rattle.machine_spec.specs.Boot.{booted_zone}
use Rattle.machine_spec.specs.Sound.{IsInFlight, Stands, IsLiveZone}
use Rattle.zone_spec.specs.Parts.{IsImage, AreBytes}
use Rattle.ring_laws.proofs.PartsLaw.{slice_range-bytes}
use Rattle.ring_laws.proofs.CallLaw.{call_law}
use Rattle.ring_laws.proofs.StoreBytes.{call_image}
use Rattle.ring_laws.proofs.BootRing.{boot_keeps, boot_image_all}

module _ (z : Zone) (valid : IsValidZone z) where
  begun_by : (live : LiveZone) (call : Call) (b : Bool) → IsLiveZone z live → live.flight ≡ None
      → CanBegin z live.image call → (length (call_stores z call live.image) == 0) ≡ b
      → IsLiveZone z (cond b live (record live {
        flight = Some
            (record { image = live.image; call = call; made = 0 });
      }))
  unfolding after_stores
  begun_by live call true sound e can none_left = sound
  begun_by live call false sound e can some = record {
    size = sound.size;
    stands = record {
      size = sound.size;
      ring = subst (Stands z live.image live.told) e sound.stands;
      can = can;
      now = refl;
      left = grind (arith, nat_tests);
    };
  }

  -- a call that may begin keeps it so
  pub begun-sound : (live : LiveZone) (call : Call) → IsLiveZone z live → live.flight ≡ None
      → CanBegin z live.image call → IsLiveZone z (begun z call live)
  begun-sound live call sound e can = begun_by live call _ sound e can refl

  stepped_in : (live : LiveZone) (f : Flight) (k : ℕ) (b : Bool) → IsInFlight z live.image live.told f
      → nat_lt (f.made + k) (total_stores z f) ≡ b
      → IsLiveZone z (cond b (record live {
        image = image_after z f.call f.image (f.made + k);
        flight = Some (record f { made = f.made + k });
      })
      (record {
        image = image_after z f.call f.image (total_stores z f);
        told = told_after z.cap f.call live.told;
        flight = None;
      }))
  stepped_in live f k true flies e = record {
    size = call_image z valid f.image f.call (f.made + k) flies.size flies.can;
    stands = record {
      size = flies.size;
      ring = flies.ring;
      can = flies.can;
      now = refl;
      left = ltb-true (f.made + k) (total_stores z f) e;
    };
  }
  stepped_in live f k false flies e = record {
    size = call_image z valid f.image f.call (total_stores z f) flies.size flies.can;
    stands = call_law z valid f.call f.image live.told flies.size flies.ring flies.can;
  }

  stepped_on : (live : LiveZone) (o : Option Flight) (k : ℕ) → IsLiveZone z live → live.flight ≡ o
      → IsLiveZone z (stepped_by o z k live)
  stepped_on live None k sound e = sound
  stepped_on live (Some f) k sound e = stepped_in live f k _ (subst (Stands z live.image live.told) e sound.stands) refl

  -- some steps keep a zone sound
  pub stepped-sound : (k : ℕ) (live : LiveZone) → IsLiveZone z live → IsLiveZone z (stepped z k live)
  stepped-sound k live sound = stepped_on live live.flight k sound refl

  pub finished-sound : (live : LiveZone) → IsLiveZone z live → IsLiveZone z (finished z live)
  finished-sound live sound = stepped-sound (stores_left live.flight z) live sound

  pub erased-sound : (name : Name) (live : LiveZone) → IsLiveZone z live → (is_in name z ≡ true → live.flight ≡ None)
      → IsLiveZone z (erase_zone name z live)
  erased-sound name live sound h = by (is_in name z) refl
    where
      by : (b : Bool) → is_in name z ≡ b → IsLiveZone z (cond b (finished z (begun z Erase live)) live)
      by true e = finished-sound (begun z Erase live) (begun-sound live Erase sound (h e) tt)
      by false e = sound

  -- a zone after a boot
  pub zone_image : (image : List ℕ) → z.at + z.size ≤ length image → AreBytes image → IsImage z (zone_bytes z image)
  zone_image image h bytes = (
    omega (arith, length-take ((z.at + z.size) - z.at) (drop z.at image), length-drop z.at image),
    slice_range-bytes image z.at (z.at + z.size) bytes,
  )

  pub booted-sound : (image : List ℕ) → z.at + z.size ≤ length image → AreBytes image
      → IsLiveZone z (booted_zone image z)
  booted-sound image h bytes =
      let im : IsImage z (zone_bytes z image) = zone_image image h bytes in
      record {
        size = boot_image_all z valid (zone_bytes z image) im;
        stands = boot_keeps z valid (zone_bytes z image) im;
      }
