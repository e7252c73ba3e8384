-- When a zone can be shared, and opened
use Rattle.std.proofs.Common.{◌≡◌, ℕ, ◌+◌, ◌-◌, ◌≤◌, List, length, drop, get_or, sym, ap, ◌∙◌, subst, arith, Some}
use Rattle.std.proofs.lemmas.List.{length-take, length-drop}
use Rattle.std.proofs.lemmas.List.Quantifiers.{position-Some}
use Rattle.std.proofs.lemmas.Option.{slice_get-get_or}
use Rattle.std.specs.Prelude.{slice_get}
use Rattle.zone_spec.specs.declared.Zone.{Zone}
use Rattle.zone_spec.specs.declared.ZoneName.{ZoneName}
use Rattle.zone_spec.specs.declared.Words.{Words}
use Rattle.zone_spec.specs.Zones.{IsValidZone}
use Rattle.zone_spec.specs.Parts.{standing_words}
use Rattle.zone_spec.specs.Layouts.{IsLayout, is_zone, zone_place}
use Rattle.machine_spec.specs.Zones.{zone_bytes}
use Rattle.machine_laws.proofs.Lists.{zone_within}
use Rattle.shared_spec.specs.Machine.{CanShare}
use Rattle.shared_spec.specs.Histories.{CanOpen}
use Rattle.shared_ring.specs.Seats.{IsOpenRing}
use Rattle.shared_ring.proofs.OpenAndClosed.{zone_there}

pub shares : (z : Zone) (image : List ℕ) (w : Words) → IsValidZone z → z.at + z.size ≤ length image
    → w ≡ standing_words z (zone_bytes z image) → z.parity ≡ 0 → w.sig ≡ z.sig → IsOpenRing w z.cap
    → CanShare z (zone_bytes z image)
shares z image w valid within e plain signed ring = record {
  valid = valid;
  parity = plain;
  sized = omega (
    arith,
    length-take ((z.at + z.size) - z.at) (drop z.at image),
    length-drop z.at image,
  );
  signed = ap (λ (x : Words). x.sig) (sym e) ∙ signed;
  ring = (subst (λ (x : Words). IsOpenRing x z.cap) e ring).ring;
  is_open = (subst (λ (x : Words). IsOpenRing x z.cap) e ring).is_open;
}

pub open_ring : (z : Zone) (bytes : List ℕ) (w : Words) → w ≡ standing_words z bytes → CanShare z bytes
    → IsOpenRing w z.cap
open_ring z bytes w e can = subst (λ (x : Words). IsOpenRing x z.cap) (sym e)
    (record { ring = can.ring; is_open = can.is_open })

-- the zone at a place of a layout lies in the image
pub lies_in : (zones : List Zone) (mem : ℕ) (i : ℕ) (z : Zone) → IsLayout zones mem → slice_get zones i ≡ Some z
    → IsValidZone z × (z.at + z.size ≤ mem)
lies_in zones mem i z lies e =
    let h = lies.valid i z e in (h.0, omega (arith, h.1, lies.within, zone_within zones i z e))

pub opens : (zones : List Zone) (name : ZoneName) (image : List ℕ) (i : ℕ) (z : Zone)
    → Some i ≡ zone_place zones name → slice_get zones i ≡ Some z → CanShare z (zone_bytes z image)
    → CanOpen zones name image
opens zones name image i z e f can =
    record { place = i; zone = z; named = sym e; there = f; can = can }

pub shares_opened : (zones : List Zone) (name : ZoneName) (image : List ℕ) (i : ℕ) (z : Zone)
    → Some i ≡ zone_place zones name → slice_get zones i ≡ Some z → CanOpen zones name image
    → CanShare z (zone_bytes z image)
shares_opened zones name image i z e f can =
    let g : Some z ≡ Some can.zone = sym f ∙ zone_there zones name image can i e in
    let same : can.zone ≡ z = cc in
    subst (λ (y : Zone). CanShare y (zone_bytes y image)) same can.can

-- the zone that is read at the place of a name is there
pub zone_got : (zones : List Zone) (name : ZoneName) (i : ℕ) (d : Zone) → Some i ≡ zone_place zones name
    → slice_get zones i ≡ Some (get_or zones i d)
zone_got zones name i d e = slice_get-get_or zones i d (position-Some (is_zone name) zones i d (sym e)).0
