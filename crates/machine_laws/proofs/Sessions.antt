-- Appends, undamaged zones and flips
use Rattle.std.proofs.Common.{slice_get, take, drop, ap₂, suc, ◌-◌, length-set, get_or-set_same, get_or-set_other}
use Rattle.std.proofs.Common.{get_or, append-nil, append_assoc, bit_xor, flat_map, ◌≡◌, ℕ, ◌+◌, List, [], ◌∷◌, ◌++◌}
use Rattle.std.proofs.Common.{length, refl, sym, ap, ◌∙◌, length-append, length-drop, subst, subst₂, arith, inl, inr}
use Rattle.std.proofs.Common.{Some}
use Rattle.std.proofs.lemmas.List.Sums.{sum_by-cons}
use Rattle.std.proofs.lemmas.List.{take-append-drop, drop-drop, drop-append-le}
use Rattle.zone_spec.specs.Layouts.{zones_end}
use Rattle.machine_spec.specs.States.{Flight, OffZone}
use Rattle.machine_spec.specs.Zones.{zone_bytes}
use Rattle.zone_spec.specs.declared.Zone.{Zone}
use Rattle.std.proofs.lemmas.Bool.{cases_lt}
use Rattle.zone_spec.specs.declared.Verdict.TheVariants.{AsTold}
use Rattle.zone_spec.specs.Zones.{IsValidZone}
use Rattle.zone_spec.specs.Parts.{Header, Block, part_word, IsImage}
use Rattle.zone_spec.specs.Reading.{zone_reading}
use Rattle.zone_spec.specs.Told.{Call, last_items}
use Rattle.zone_spec.specs.Verdicts.{verdict_of}
use Rattle.zone_spec.specs.Cut.{Cut, ByCall, words_before}
use Rattle.machine_spec.specs.Stop.{cut_of}
use Rattle.damage_laws.proofs.Within.{idle_zone_reads_told}
use Rattle.damage_laws.proofs.CutPlaces.{old_places}
use Rattle.machine_spec.specs.Sound.{IsOffZone, IsInFlight}
use Rattle.machine_spec.specs.Headline.{OldPlacesRead}
use Rattle.ring_laws.proofs.RingLaw.{last_items-short}
use Rattle.machine_laws.specs.Sessions.{AppendsTellLastBytes, ImageIsZonesAndRest, UndamagedReadsTold, ReadsAsAtStop}
use Rattle.machine_laws.specs.Sessions.{FlipChangesOneByte}
use Rattle.machine_laws.proofs.OffStates.{off_bytes}

-- ---- appends

front_last : (cap : ℕ) (xs ys : List ℕ) → last_items cap (last_items cap xs ++ ys) ≡ last_items cap (xs ++ ys)
front_last cap xs ys = elim (cases_lt cap (length xs)) [
  | inl a ↦
      (let d : ℕ = length xs - cap in
      let f : drop d xs ++ ys ≡ drop d (xs ++ ys) = sym (drop-append-le d xs ys (omega arith)) in
      let n : length (drop d xs ++ ys) - cap ≡ length ys =
      omega (arith, length-append (drop d xs) ys, length-drop d xs) in
      let m : length (xs ++ ys) - cap ≡ d + length ys = omega (arith, length-append xs ys) in
      ap₂ drop n f ∙ drop-drop (length ys) d (xs ++ ys) ∙ ap (λ k. drop k (xs ++ ys)) (sym m))
  | inr g ↦ (let e : length xs - cap ≡ 0 = omega arith in ap (λ k. last_items cap (drop k xs ++ ys)) e)
]

pub appends_tell_last_bytes : AppendsTellLastBytes
appends_tell_last_bytes cap told [] l = sym (ap (last_items cap) (append-nil told) ∙ last_items-short cap told l)
appends_tell_last_bytes cap told (p ∷ ps) l =
    appends_tell_last_bytes cap (last_items cap (told ++ p)) ps
    (omega (arith, length-drop (length (told ++ p) - cap) (told ++ p)))
    ∙ front_last cap (told ++ p) (flat_map (λ payload. payload) ps)
    ∙ ap (last_items cap) (append_assoc told p (flat_map (λ payload. payload) ps))

-- ---- undamaged zones

-- what holds of a flight as a cut holds of the cut, and of its call
pub flight_call : (P : Cut → Call → Type 0) (z : Zone) (f : Flight) (cut : Cut) (call : Call) → cut ≡ cut_of z f
    → cut.by ≡ ByCall call → P (cut_of z f) f.call → P cut call
flight_call P z f cut call is own h =
    let same : ByCall f.call ≡ ByCall call = sym (ap (λ (c : Cut). c.by) is) ∙ own in
    let e : f.call ≡ call = cc in subst₂ P (sym is) e h

pub zone_undamaged : (z : Zone) (zone : OffZone) (now : List ℕ) → IsValidZone z → IsOffZone z zone → IsImage z now
    → ReadsAsAtStop z zone now
zone_undamaged z zone now valid sound hn = record {
  idle = λ told t c same.
      let whole : verdict_of (Some told) (zone_reading z now).log ≡ AsTold =
      (idle_zone_reads_told z zone.stop now told valid sound.size hn (sound.idle told t c)
      (inr (ap (λ x. part_word z x Header) same))).whole
      (λ b h. inr (ap (λ x. part_word z x (Block b)) same)) in
      ap (λ o. verdict_of o (zone_reading z now).log) t ∙ whole;
  places = λ told cut call t c own same.
      let f = sound.in_flight cut call c own in
      let e : f.0 ≡ told = (let g : Some f.0 ≡ Some told = sym f.2.told_is ∙ t in cc) in
      flight_call (λ k c. OldPlacesRead z (words_before z k) c told zone.stop now) z f.1 cut call f.2.cut_is own
      (old_places z zone.stop now told f.1 valid sound.size
      (subst (λ xs. IsInFlight z zone.stop xs f.1) e f.2.at_stop) hn);
}

pub undamaged_reads_told : UndamagedReadsTold
undamaged_reads_told layout mem off lies state = (
  state.zones.0,
  λ i z zone hz hv. zone_undamaged z zone (zone_bytes z off.image) (lies.valid i z hz).0
      (state.zones.1 i z zone hz hv) (off_bytes layout mem lies off state i z hz),
)

-- ---- flips

pub flip_changes_one_byte : FlipChangesOneByte
flip_changes_one_byte off place mask = (
  refl,
  length-set off.image place (bit_xor (get_or off.image place 0) mask),
  (λ i ne. get_or-set_other off.image place i (bit_xor (get_or off.image place 0) mask) 0 ne),
  (λ h. get_or-set_same off.image place (bit_xor (get_or off.image place 0) mask) 0 h),
)

-- ---- images

zones_and_rest : (image : List ℕ) (zs : List Zone) (base : ℕ)
    → ((i : ℕ) (z : Zone) → slice_get zs i ≡ Some z → z.at ≡ base + zones_end (take i zs))
    → flat_map (λ z. zone_bytes z image) zs ++ drop (base + zones_end zs) image ≡ drop base image
zones_and_rest image [] base at = ap (λ n. drop n image) (let e : base + zones_end [] ≡ base = omega arith in e)
zones_and_rest image (y ∷ ys) base at =
    let here : y.at ≡ base + zones_end [] = at 0 y refl in
    let own : zone_bytes y image ≡ take y.size (drop base image) =
    ap₂ (λ n d. take n (drop d image)) (let e : (y.at + y.size) - y.at ≡ y.size = omega arith in e)
    (let e : y.at ≡ base = omega (arith, here) in e) in
    let total : base + zones_end (y ∷ ys) ≡ (base + y.size) + zones_end ys =
    omega (arith, sum_by-cons (λ (v : Zone). v.size) y ys) in
    let rest = zones_and_rest image ys (base + y.size) (λ i z e. at (suc i) z e
    ∙ omega (arith, sum_by-cons (λ (v : Zone). v.size) y (take i ys))) in
    append_assoc (zone_bytes y image) (flat_map (λ z. zone_bytes z image) ys) (drop (base + zones_end (y ∷ ys)) image)
    ∙ ap₂ (λ a b. a ++ b) own (ap (λ n. flat_map (λ z. zone_bytes z image) ys ++ drop n image) total ∙ rest
    ∙ sym (drop-drop y.size base image))
    ∙ take-append-drop y.size (drop base image)

pub image_is_zones_and_rest : ImageIsZonesAndRest
image_is_zones_and_rest layout mem image lies size =
    let n : 0 + zones_end layout ≡ zones_end layout = omega arith in
    ap (λ m. flat_map (λ z. zone_bytes z image) layout ++ drop m image) (sym n)
    ∙ zones_and_rest image layout 0 (λ i z e. (lies.valid i z e).1 ∙ omega arith)
