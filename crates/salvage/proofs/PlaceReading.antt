-- What a place reads as the zone of a name
use Rattle.std.proofs.Common.{◌≡◌, ℕ, ◌+◌, ◌%◌, ◌<◌, ◌≤◌, ◌&&◌, ◌==◌, List, length, get_or, refl, sym, ap, ◌∙◌, subst}
use Rattle.std.proofs.Common.{Bool, true, false, if◌then◌else◌, nat_lt, Option, Some, None, Ok, Err}
use Rattle.std.specs.Prelude.{slice_get, option_and_then, is_some, Result, IsOk}
use Rattle.std.specs.List.{position_or_len}
use Rattle.std.proofs.lemmas.Bool.{ltb-true, and_parts}
use Rattle.std.proofs.lemmas.Option.{slice_get-get_or}
use Rattle.zone_spec.specs.declared.Zone.{Zone}
use Rattle.zone_spec.specs.declared.ZoneName.{ZoneName}
use Rattle.zone_spec.specs.Zones.{IsValidZone}
use Rattle.zone_spec.specs.Layouts.{IsLayout, is_zone, zone_place}
use Rattle.zone_spec.specs.Reading.{ZoneReading, zone_reading}
use Rattle.salvage_spec.specs.declared.RingFault.{RingFault}
use Rattle.salvage_spec.specs.declared.RingFault.TheVariants.{NoRing}
use Rattle.salvage_spec.specs.Rings.{bytes_at, ring_at, read_as, read_at}
use Rattle.salvage.specs.Scans.{Scanned}
use Rattle.salvage.proofs.Ranges.{ring_within}

place_within : (zones : List Zone) (name : ZoneName) (i : ℕ) → zone_place zones name ≡ Some i → i < length zones
place_within zones name i e =
    by (nat_lt (position_or_len (is_zone name) zones) (length zones)) refl e
  where
    by : (b : Bool) → nat_lt (position_or_len (is_zone name) zones) (length zones) ≡ b
        → (if b then Some (position_or_len (is_zone name) zones) else None) ≡ Some i → i < length zones
    by true t h =
        let same : position_or_len (is_zone name) zones ≡ i = cc in
        subst (λ (k : ℕ). k < length zones) same (ltb-true (position_or_len (is_zone name) zones) (length zones) t)
    by false t h = cc

-- the zone of the name, which a layout has at place i
pub named : (zones zs : List Zone) (name : ZoneName) (o : Option ℕ) (i : ℕ) → o ≡ zone_place zs name → o ≡ Some i
    → zones ≡ zs → i < length zones
named zones zs name o i eo ei ez =
    subst (λ (l : List Zone). i < length l) (sym ez) (place_within zs name i (sym eo ∙ ei))

pub named_valid : (zones zs : List Zone) (mem : ℕ) (name : ZoneName) (o : Option ℕ) (i : ℕ) (d : Zone)
    → IsLayout zones mem → o ≡ zone_place zs name → o ≡ Some i → zones ≡ zs → IsValidZone (get_or zones i d)
named_valid zones zs mem name o i d laid eo ei ez =
    (laid.valid i (get_or zones i d) (slice_get-get_or zones i d (named zones zs name o i eo ei ez))).0

pub asked : (now : Scanned) (image dump : List ℕ) (zs zones : List Zone) (v : Scanned) (at : ℕ) (name : ZoneName)
    (o : Option ℕ) (i : ℕ) (d : Zone) (b : Bool) → v ≡ now → v.image ≡ image → v.zones ≡ zs
    → o ≡ zone_place zs name → o ≡ Some i → zones ≡ zs → dump ≡ image
    → b ≡ ((at % 2 == 0) && is_some (ring_at dump at (get_or zones i d)))
    → read_at now.image now.zones at name
    ≡ (if b then Ok (zone_reading (get_or zones i d) (bytes_at (get_or zones i d) image at)) else Err NoRing)
asked now image dump zs zones v at name o i d b view ei ezs eo en ez ed eb =
    sym (ap (λ (s : Scanned). read_at s.image s.zones at name) view)
    ∙ ap (λ (x : List ℕ). read_at x v.zones at name) ei
    ∙ ap (λ (l : List Zone). read_at image l at name) ezs
    ∙ ap (λ (p : Option ℕ). read_as image at (option_and_then (slice_get zs) p)) (sym eo ∙ en)
    ∙ ap (read_as image at) (ap (λ (l : List Zone). slice_get l i) (sym ez)
    ∙ slice_get-get_or zones i d (named zones zs name o i eo en ez))
    ∙ sym (ap (λ (t : Bool). if t then Ok (zone_reading (get_or zones i d) (bytes_at (get_or zones i d) image at))
    else Err NoRing) (eb ∙ ap (λ (x : List ℕ). (at % 2 == 0) && is_some (ring_at x at (get_or zones i d))) ed))

pub inside : (dump other image : List ℕ) (at : ℕ) (z : Zone) (b : Bool) → dump ≡ image → other ≡ image → b ≡ true
    → b ≡ ((at % 2 == 0) && is_some (ring_at dump at z)) → at + z.size ≤ length other
inside dump other image at z b ed eo t eb =
    subst (λ (x : List ℕ). at + z.size ≤ length x) (ed ∙ sym eo)
    (ring_within dump at z (and_parts (at % 2 == 0) (is_some (ring_at dump at z)) (sym (sym t ∙ eb))).1)

-- ---- by the answer
pub read_ok : (o : Result ZoneReading RingFault) (z : Zone) (image dump : List ℕ) (at : ℕ) (b : Bool) (r : ZoneReading)
    → b ≡ true → o ≡ (if b then Ok (zone_reading z (bytes_at z image at)) else Err NoRing) → dump ≡ image
    → r ≡ zone_reading z (bytes_at z dump at) → o ≡ Ok r
read_ok o z image dump at b r t e ed h =
    e ∙ ap (λ (s : Bool). if s then Ok (zone_reading z (bytes_at z image at)) else Err NoRing) t
    ∙ ap (λ (y : ZoneReading). let v : Result ZoneReading RingFault = Ok y in v)
    (sym (h ∙ ap (λ (d : List ℕ). zone_reading z (bytes_at z d at)) ed))

pub read_err : (o : Result ZoneReading RingFault) (x : ZoneReading) (b : Bool) → b ≡ false
    → o ≡ (if b then Ok x else Err NoRing) → o ≡ Err NoRing
read_err o x b t e = e ∙ ap (λ (s : Bool). if s then Ok x else Err NoRing) t

pub is_ok : (o : Result ZoneReading RingFault) (x : ZoneReading) (b : Bool) → b ≡ true
    → o ≡ (if b then Ok x else Err NoRing) → IsOk o
is_ok o x b t e =
    subst (λ (v : Result ZoneReading RingFault). IsOk v)
    (sym (e ∙ ap (λ (s : Bool). if s then Ok x else Err NoRing) t)) refl
