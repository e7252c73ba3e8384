-- What a zone of a sound state reads, and from it the headline
use Rattle.std.proofs.Common.{◌≡◌, ℕ, List, sym, ◌∙◌, subst, arith, Some}
use Rattle.zone_spec.specs.declared.Zone.{Zone}
use Rattle.zone_spec.specs.Zones.{IsValidZone}
use Rattle.zone_spec.specs.Parts.{Header, Block, IsImage}
use Rattle.zone_spec.specs.Ring.{IsRingForm}
use Rattle.damage_laws.proofs.Within.{idle_log}
use Rattle.damage_laws.proofs.CutPlaces.{old_places, no_other_places}
use Rattle.zone_spec.specs.Cut.{words_before}
use Rattle.zone_spec.specs.Layouts.{IsLayout}
use Rattle.machine_spec.specs.Zones.{zone_bytes}
use Rattle.machine_spec.specs.States.{OffZone, OffState, Off}
use Rattle.machine_spec.specs.Sound.{IsState, IsOffZone, IsInFlight}
use Rattle.machine_spec.specs.Headline.{ReadsLastWritten, EachOffZone, OldPlacesRead, NoOtherPlaces}
use Rattle.machine_laws.specs.Headline.{Headline, SoundStateReadsLastWritten}
use Rattle.machine_laws.proofs.OffStates.{off_bytes}
use Rattle.machine_laws.proofs.Sessions.{flight_call}
use Rattle.machine_laws.proofs.Operations.{states_are_sound}
use Rattle.machine_laws.proofs.Boots.{call_reported}

-- of one zone
pub zone_reads : (z : Zone) (zone : OffZone) (now : List ℕ) → IsValidZone z → IsOffZone z zone → IsImage z now
    → ReadsLastWritten z zone now
zone_reads z zone now valid sound hn = record {
  idle = λ told t c within.
      let ring : IsRingForm z zone.stop told = sound.idle told t c in
      idle_log z zone.stop now told valid sound.size hn ring within.0 within.1;
  places = λ told cut call t c own.
      let f = sound.in_flight cut call c own in
      let same : f.0 ≡ told = (let e : Some f.0 ≡ Some told = sym f.2.told_is ∙ t in cc) in
      let at : IsInFlight z zone.stop told f.1 = subst (λ xs. IsInFlight z zone.stop xs f.1) same f.2.at_stop in
      flight_call (λ k c. OldPlacesRead z (words_before z k) c told zone.stop now
      × NoOtherPlaces z (words_before z k) c now) z f.1 cut call f.2.cut_is own (
        old_places z zone.stop now told f.1 valid sound.size at hn,
        no_other_places z valid zone.stop now told f.1 at,
      );
}

pub state_reads : (layout : List Zone) (mem : ℕ) (off : OffState) → IsLayout layout mem → IsState layout mem (Off off)
    → EachOffZone layout off ReadsLastWritten
state_reads layout mem off lies state = (
  state.zones.0,
  λ i z zone hz hv. zone_reads z zone (zone_bytes z off.image) (lies.valid i z hz).0
      (state.zones.1 i z zone hz hv) (off_bytes layout mem lies off state i z hz),
)

-- and its cut is reported
pub sound_state_reads_last_written : SoundStateReadsLastWritten
sound_state_reads_last_written layout mem off lies state = (
  state.zones.0,
  λ i z zone hz hv. record {
    reads = (state_reads layout mem off lies state).1 i z zone hz hv;
    reported = λ cut call c own. call_reported z zone (zone_bytes z off.image) cut call (lies.valid i z hz).0
        (state.zones.1 i z zone hz hv) c own;
  },
)

pub headline : Headline
headline layout mem off lies reached = sound_state_reads_last_written layout mem off lies
    (states_are_sound layout mem (Off off) lies reached)
