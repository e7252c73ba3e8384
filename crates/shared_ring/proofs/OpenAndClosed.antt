-- A shared zone that was just opened, and one that is closed
use Rattle.std.proofs.Common.{◌≡◌, ℕ, zero, suc, ◌+◌, ◌-◌, ◌<◌, ◌≤◌, List, [], ◌∷◌, ◌++◌, length, map, take, drop}
use Rattle.std.proofs.Common.{get_or, refl, sym, ap, ap₂, ◌∙◌, subst, arith, append_assoc, Some}
use Rattle.std.specs.Prelude.{slice_get, slice_range}
use Rattle.std.specs.List.{concat}
use Rattle.std.proofs.lemmas.List.{take-append-drop, drop-drop, length-map}
use Rattle.std.proofs.lemmas.List.Sums.{sum_by-cons}
use Rattle.std.proofs.lemmas.Option.{slice_get-map, get_or_from_slice_get, slice_get_within}
use Rattle.std.proofs.Math.Seq.{take-add}
use Rattle.std.specs.Option.{option_map}
use Rattle.zone_spec.specs.declared.Zone.{Zone}
use Rattle.zone_spec.specs.declared.ZoneName.{ZoneName}
use Rattle.zone_spec.specs.Parts.{standing_words}
use Rattle.zone_spec.specs.Layouts.{IsLayout, zones_end, zone_place}
use Rattle.machine_spec.specs.Zones.{zone_bytes}
use Rattle.shared_spec.specs.Machine.{CanShare, opened, open_calls_from}
use Rattle.shared_spec.specs.Runs.{shared_after}
use Rattle.shared_spec.specs.Histories.{History, CanOpen, image_left}
use Rattle.prz_region.specs.CutRegion.{span, cut_at}
use Rattle.shared_ring.specs.Seen.{SharedSeen, IsWhole, StandsFor, IsLeftBy}
use Rattle.shared_ring.proofs.Regions.{joined}

-- ---- the bytes before a zone, and behind it

-- zones that follow one another from a place on
abbrev AreFrom : ℕ → List Zone → Type 0
AreFrom base zs = (i : ℕ) (z : Zone) → slice_get zs i ≡ Some z → z.at ≡ base + zones_end (take i zs)

later : (base : ℕ) (y : Zone) (ys : List Zone) → AreFrom base (y ∷ ys) → AreFrom (base + y.size) ys
later base y ys at i z e = at (suc i) z e ∙ omega (arith, sum_by-cons (λ (v : Zone). v.size) y (take i ys))

own : (image : List ℕ) (base : ℕ) (y : Zone) → y.at ≡ base → zone_bytes y image ≡ take y.size (drop base image)
own image base y e = ap₂ (λ n d. take n (drop d image))
    (let f : (y.at + y.size) - y.at ≡ y.size = omega arith in f) e

first : (base : ℕ) (y : Zone) (ys : List Zone) → AreFrom base (y ∷ ys) → y.at ≡ base
first base y ys at = let h : y.at ≡ base + zones_end [] = at 0 y refl in omega (arith, h)

total : (base : ℕ) (y : Zone) (ys : List Zone) → base + zones_end (y ∷ ys) ≡ (base + y.size) + zones_end ys
total base y ys = omega (arith, sum_by-cons (λ (v : Zone). v.size) y ys)

module _ (image : List ℕ) where
  abbrev bytes : Zone → List ℕ
  bytes z = zone_bytes z image

  before_zone : (zs : List Zone) (i : ℕ) (z : Zone) (base : ℕ) → AreFrom base zs → slice_get zs i ≡ Some z
      → concat (take i (map bytes zs)) ≡ take (z.at - base) (drop base image)
  before_zone [] i z base at e = cc
  before_zone (y ∷ ys) zero z base at e =
      let s : y ≡ z = cc in
      let here : y.at ≡ base = first base y ys at in
      let same : y.at ≡ z.at = ap (λ (v : Zone). v.at) s in
      let n : 0 ≡ z.at - base = omega arith in ap (λ m. take m (drop base image)) n
  before_zone (y ∷ ys) (suc i) z base at e =
      let here : z.at ≡ (base + y.size) + zones_end (take i ys) = later base y ys at i z e in
      let n : y.size + (z.at - (base + y.size)) ≡ z.at - base = omega arith in
      ap₂ (λ xs zs. xs ++ zs) (own image base y (first base y ys at))
      (before_zone ys i z (base + y.size) (later base y ys at) e
      ∙ ap (take (z.at - (base + y.size))) (sym (drop-drop y.size base image)))
      ∙ sym (take-add y.size (z.at - (base + y.size)) (drop base image))
      ∙ ap (λ m. take m (drop base image)) n

  all_zones : (zs : List Zone) (base : ℕ) → AreFrom base zs
      → concat (map bytes zs) ++ drop (base + zones_end zs) image ≡ drop base image
  all_zones [] base at = ap (λ n. drop n image) (let e : base + zones_end [] ≡ base = omega arith in e)
  all_zones (y ∷ ys) base at =
      append_assoc (bytes y) (concat (map bytes ys)) (drop (base + zones_end (y ∷ ys)) image)
      ∙ ap₂ (λ a b. a ++ b) (own image base y (first base y ys at))
      (ap (λ n. concat (map bytes ys) ++ drop n image) (total base y ys)
      ∙ all_zones ys (base + y.size) (later base y ys at) ∙ sym (drop-drop y.size base image))
      ∙ take-append-drop y.size (drop base image)

  after_zone : (zs : List Zone) (i : ℕ) (z : Zone) (base : ℕ) → AreFrom base zs → slice_get zs i ≡ Some z
      → concat (drop (suc i) (map bytes zs)) ++ drop (base + zones_end zs) image ≡ drop (z.at + z.size) image
  after_zone [] i z base at e = cc
  after_zone (y ∷ ys) zero z base at e =
      let s : y ≡ z = cc in
      ap (λ n. concat (map bytes ys) ++ drop n image) (total base y ys)
      ∙ all_zones ys (base + y.size) (later base y ys at)
      ∙ ap (λ n. drop (n + y.size) image) (sym (first base y ys at))
      ∙ ap (λ (v : Zone). drop (v.at + v.size) image) s
  after_zone (y ∷ ys) (suc i) z base at e =
      ap (λ n. concat (drop (suc i) (map bytes ys)) ++ drop n image) (total base y ys)
      ∙ after_zone ys i z (base + y.size) (later base y ys at) e

-- ---- the opening

module _ (zones : List Zone) (mem : ℕ) (image : List ℕ) (lies : IsLayout zones mem) (place : ℕ) (z : Zone)
    (there : slice_get zones place ≡ Some z) (can : CanShare z (zone_bytes z image)) where
  abbrev pub just_opened : SharedSeen
  just_opened = record {
    region = cut_at zones image;
    place = place;
    zone = z;
    reserved = 0;
    seats = [];
  }

  at : AreFrom 0 zones
  at i y e = (lies.valid i y e).1 ∙ omega arith

  own_span : span (cut_at zones image) place ≡ zone_bytes z image
  own_span = get_or_from_slice_get (cut_at zones image).spans place (zone_bytes z image) []
      (slice_get-map (λ (y : Zone). slice_range image y.at (y.at + y.size)) zones place
      ∙ ap (option_map (λ (y : Zone). slice_range image y.at (y.at + y.size))) there)

  inside : place < length (cut_at zones image).spans
  inside = omega (
    arith,
    length-map zones (λ (y : Zone). slice_range image y.at (y.at + y.size)),
    slice_get_within zones place z there,
  )

  pub opened_stands : StandsFor z image (opened z (zone_bytes z image)) just_opened
  unfolding open_calls_from
  opened_stands =
      let n : z.at - 0 ≡ z.at = omega arith in
      let m : place + 1 ≡ suc place = omega arith in
      let e : zones_end zones ≡ 0 + zones_end zones = omega arith in
      record {
        zone = refl;
        there = inside;
        bytes = own_span;
        before = before_zone image zones place z 0 at there ∙ ap (λ k. take k image) n;
        after = ap₂ (λ k l. concat (drop k (cut_at zones image).spans) ++ drop l image) m e
            ∙ after_zone image zones place z 0 at there;
        reserved = refl;
        shown = refl;
        seated = λ i s f. cc;
      }

  pub opened_whole : IsWhole just_opened
  opened_whole =
      let w : length (zone_bytes z image) ≡ z.size = can.sized in
      record {
        there = inside;
        sized = ap length own_span ∙ w;
        short = can.valid.at_most;
        room = omega (arith, can.valid.cap);
        start = subst (λ xs. (standing_words z xs).start < z.cap) (sym own_span) can.is_open.0;
        size = subst (λ xs. (standing_words z xs).size ≤ z.cap) (sym own_span) can.ring.1;
        few = omega arith;
        seats = record { each = λ i s f. cc };
      }

  pub opened_left : IsLeftBy (record { image = image; zone = z; operations = [] }) just_opened
  unfolding shared_after
  opened_left = record { can = can; stands = opened_stands }

-- ---- the end

pub closed : (h : History) (v : SharedSeen) → IsLeftBy h v
    → concat v.region.spans ++ v.region.rest ≡ image_left h
closed h v l =
    joined v.region v.place l.stands.there
    ∙ ap₂ (λ xs ys. xs ++ span v.region v.place ++ ys) l.stands.before l.stands.after
    ∙ ap (λ xs. take h.zone.at h.image ++ xs ++ drop (h.zone.at + h.zone.size) h.image) l.stands.bytes

-- ---- the zone of a name

named_once : (zones : List Zone) (name : ZoneName) (i j : ℕ) → zone_place zones name ≡ Some i
    → Some j ≡ zone_place zones name → i ≡ j
named_once zones name i j e f = let g : Some i ≡ Some j = sym e ∙ sym f in cc

-- what is read at its place is the zone
pub zone_there : (zones : List Zone) (name : ZoneName) (image : List ℕ) (can : CanOpen zones name image) (j : ℕ)
    → Some j ≡ zone_place zones name → slice_get zones j ≡ Some can.zone
zone_there zones name image can j f =
    let i : can.place ≡ j = named_once zones name can.place j can.named f in
    ap (slice_get zones) (sym i) ∙ can.there

pub zone_read : (zones : List Zone) (j : ℕ) (z d : Zone) → slice_get zones j ≡ Some z → get_or zones j d ≡ z
zone_read zones j z d e = get_or_from_slice_get zones j z d e
