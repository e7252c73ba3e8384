-- A state off is sound after a boot that was cut
use Rattle.std.proofs.Common.{ltb-true, lt-ltb, leb-false, ◌≡◌, ℕ, suc, ◌<◌, Bool, true, false, cond, ◌&&◌, nat_lt}
use Rattle.std.proofs.Common.{nat_le, List, [], ◌∷◌, length, take, map, slice_get, refl, sym, ap, ◌∙◌, subst, arith}
use Rattle.std.proofs.Common.{Some, None, true≢false, ◌||◌}
use Rattle.std.specs.List.{AllByRecursion}
use Rattle.list_laws.proofs.Elements.{AllByRecursion-append}
use Rattle.zone_spec.specs.declared.Zone.{Zone}
use Rattle.zone_spec.specs.Zones.{IsValidZone}
use Rattle.zone_spec.specs.Parts.{IsImage}
use Rattle.zone_spec.specs.Ring.{IsRingForm}
use Rattle.zone_spec.specs.Boot.{boot_stores, boot_fixes, told_by_boot}
use Rattle.zone_spec.specs.Cut.{Cut, ByCall, ByBoot}
use Rattle.ring_laws.proofs.Images.{length-after_stores}
use Rattle.ring_laws.proofs.StoreBytes.{IsStore, all-take, after-bytes}
use Rattle.ring_laws.proofs.BootRing.{boot_keeps, boot_image, boot_image_all, boot_stores-all}
use Rattle.zone_spec.specs.Stores.{Store, after_stores}
use Rattle.zone_spec.specs.Layouts.{IsLayout}
use Rattle.machine_spec.specs.Zones.{zone_bytes}
use Rattle.machine_spec.specs.States.{OffZone, OffState, Off}
use Rattle.machine_spec.specs.BootPart.{moved, image_boot_stores, boot_count, boot_cut, zone_finished, zone_cut}
use Rattle.machine_spec.specs.BootPart.{zone_parted, left_at, boot_parted}
use Rattle.machine_spec.specs.Sound.{IsOffZone, IsState}
use Rattle.machine_laws.proofs.Lists.{parted-at, length-parted}
use Rattle.machine_laws.proofs.OffStates.{off_bytes}

module _ (layout : List Zone) (mem : ℕ) (lies : IsLayout layout mem) where
  moved-all : (at : ℕ) (ss : List Store) → AllByRecursion IsStore ss → AllByRecursion IsStore (map (λ s. moved at s) ss)
  moved-all at [] h = tt
  moved-all at (s ∷ ss) h = (h.0, moved-all at ss h.1)

  image_stores-all : (image : List ℕ) (zs : List Zone) → ((i : ℕ) (z : Zone) → slice_get zs i ≡ Some z
      → AllByRecursion IsStore (boot_stores z (zone_bytes z image)))
      → AllByRecursion IsStore (image_boot_stores zs image)
  image_stores-all image [] h = tt
  image_stores-all image (z ∷ zs) h = AllByRecursion-append IsStore
      (map (λ s. moved z.at s) (boot_stores z (zone_bytes z image))) _ (moved-all z.at _ (h 0 z refl))
      (image_stores-all image zs (λ i y e. h (suc i) y e))

  zone_parted-sound : (z : Zone) → IsValidZone z → (bytes : List ℕ) → IsImage z bytes
      → (all : Bool) (count : ℕ) (zone : OffZone) → IsOffZone z zone → IsOffZone z (zone_parted z bytes all count zone)
  zone_parted-sound z valid bytes im all count zone sound =
      by (all || (nat_lt 0 count && nat_le (length (boot_stores z bytes)) count)) refl
      (nat_lt (length (boot_fixes z bytes)) count) refl
    where
      -- the boot has not finished the zone, and has begun its erasure
      within : (a b c : Bool) → (a || (b && c)) ≡ false → b ≡ true → c ≡ false
      within true b c e t = absurd (true≢false e)
      within false true c e t = e
      within false false c e t = absurd (true≢false (sym t))

      by : (b : Bool) → (all || (nat_lt 0 count && nat_le (length (boot_stores z bytes)) count)) ≡ b → (c : Bool)
          → nat_lt (length (boot_fixes z bytes)) count ≡ c
          → IsOffZone z (cond b (zone_finished z bytes) (cond c (zone_cut z bytes count zone) zone))
      by true e c f = record {
        size = boot_image_all z valid bytes im;
        idle = λ told t c. (let s : told_by_boot z bytes ≡ told = cc in
            subst (IsRingForm z (after_stores bytes (boot_stores z bytes))) s (boot_keeps z valid bytes im));
        in_flight = λ cut call c b. (let n : None ≡ Some cut = c in cc);
        in_erasure = λ cut c b. (let n : None ≡ Some cut = c in cc);
      }
      by false e true f =
          let begun : length (boot_fixes z bytes) < count = ltb-true (length (boot_fixes z bytes)) count f in
          let some : nat_lt 0 count ≡ true = lt-ltb 0 count (omega (arith, begun)) in
          let left : count < length (boot_stores z bytes) =
          leb-false (length (boot_stores z bytes)) count (within all (nat_lt 0 count)
          (nat_le (length (boot_stores z bytes)) count) e some) in
          record {
            size = boot_image z valid bytes im count;
            idle = λ told t c. (let n : Some _ ≡ None = c in cc);
            in_flight = λ cut call c b. (let d : boot_cut z bytes count ≡ cut = cc in
                let n : ByBoot ≡ ByCall call = ap (λ (k : Cut). k.by) d ∙ b in cc);
            in_erasure = λ cut c b. (
              bytes,
              count,
              record {
                size = im;
                within = (begun, left);
                cut_is = (let d : boot_cut z bytes count ≡ cut = cc in sym d);
                at_stop = refl;
              },
            );
          }
      by false e false f = sound

  pub parted-state : (count : ℕ) (off : OffState) → IsState layout mem (Off off)
      → IsState layout mem (Off (boot_parted layout count off))
  parted-state count off state = record {
    zones = (
      length-parted off.image (nat_le (boot_count layout off.image) count) layout count off.zones state.zones.0,
      λ i z v hz hv.
          let r = parted-at off.image (nat_le (boot_count layout off.image) count) layout count off.zones i z v hz hv in
          subst (IsOffZone z) r.2 (zone_parted-sound z (lies.valid i z hz).0 (zone_bytes z off.image)
          (off_bytes layout mem lies off state i z hz) (nat_le (boot_count layout off.image) count)
          (left_at layout off.image count i) r.0 (state.zones.1 i z r.0 hz r.1)),
    );
    image = (
      length-after_stores off.image (take count (image_boot_stores layout off.image)) ∙ state.image.0,
      after-bytes off.image _ state.image.1 (all-take IsStore count _ (image_stores-all off.image layout
          (λ i z h. boot_stores-all z (lies.valid i z h).0 (zone_bytes z off.image)
          (off_bytes layout mem lies off state i z h)))),
    );
  }
