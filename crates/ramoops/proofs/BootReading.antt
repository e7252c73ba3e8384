-- What a boot reads zone by zone
use Rattle.std.proofs.Common.{◌≡◌, ℕ, ◌+◌, ◌<◌, ◌≤◌, ◌^◌, List, [], ◌∷◌, ◌++◌, length, slice_get, get_or, refl, sym, ap}
use Rattle.std.proofs.Common.{◌∙◌, subst, arith, inl, inr, Option, Some, None, Bor, length-append}
use Rattle.std.proofs.lemmas.Bool.{cases_lt}
use Rattle.std.proofs.lemmas.List.{length-map}
use Rattle.std.proofs.lemmas.Option.{slice_get-get_or, slice_get_past, slice_get_read, slice_get_within}
use Rattle.std.specs.Option.{option_copied}
use Rattle.std.specs.Slice.{IsItemAt}
use Rattle.circular_buffer.proofs.Places.{slice_get-append_left, slice_get-last}
use Rattle.zone_spec.specs.declared.Zone.{Zone}
use Rattle.zone_spec.specs.declared.Words.{Words}
use Rattle.zone_spec.specs.declared.State.{State}
use Rattle.zone_spec.specs.declared.State.TheVariants.{Unsigned, Empty, Invalid, Found}
use Rattle.zone_spec.specs.Zones.{IsValidZone}
use Rattle.zone_spec.specs.PartReadings.{words_read}
use Rattle.zone_spec.specs.Reading.{ZoneReading, zone_reading, reading_in, state_of, log_places, byte_read}
use Rattle.ring_laws.proofs.RingBytes.{length-log_places}
use Rattle.prz_read.proofs.Fronts.{ring-found}
use Rattle.ramoops.specs.declared.booting.Prepared.{Prepared}
use Rattle.ramoops.specs.declared.known.KnownZone.{KnownZone}
use Rattle.ramoops.specs.Reports.{report_seen, report_zone}
use Rattle.prz_read.specs.Saving.{SavedLogs}
use Rattle.ramoops.specs.Booting.{SpansFit, held_after, Adds, PreparesTo, AreLogs}
use Rattle.ramoops.specs.OffSeen.{known_or, known_all}
use Rattle.ramoops.proofs.KnownZones.{all_at}
use Rattle.ramoops.proofs.Lists.{get-pushed}

-- a log fits its zone
pub log_fits : (z : Zone) (image : List ℕ) → length (zone_reading z image).log ≤ z.cap
unfolding zone_reading
log_fits z image = by (state_of z (words_read z image)) refl
  where
    by : (s : State) → state_of z (words_read z image) ≡ s
        → length (reading_in z image (words_read z image) s).log ≤ z.cap
    by Found e =
        let w : Words = words_read z image in
        let ring = ring-found z w e in
        let n = length-map (log_places w.start w.size) (λ place. byte_read z image place) in
        let m = length-log_places w.start w.size ring.0 in
        let most = ring.1 in
        omega (arith, n, m, most)
    by Unsigned e = omega arith
    by Empty e = omega arith
    by Invalid e = omega arith

pub cap_small : (z : Zone) → IsValidZone z → z.cap < 2 ^ 32
cap_small z valid = (let a = valid.cap in let b = valid.at_most in omega (arith, a, b))

-- one zone more
pub prepares_next : (layout : List Zone) (spans : List (List ℕ)) (known : List KnownZone) (n : ℕ) (p q : Prepared)
    (z : Zone) (bytes : List ℕ) (k : KnownZone) → PreparesTo layout spans known n p
    → slice_get layout n ≡ Some z → slice_get spans n ≡ Some bytes → slice_get known n ≡ Some k → Adds p q z bytes k
    → PreparesTo layout spans known (n + 1) q
prepares_next layout spans known n p q z bytes k to ez eb ek adds = record {
  zones = adds.zones ∙ to.zones;
  readings_len = (let a = ap length adds.readings in let b = length-append p.logs.readings
      (Some (zone_reading z bytes) ∷ []) in let c = to.readings_len in omega (arith, a, b, c));
  reports_len = (let a = ap length adds.reports in let b = length-append p.reports.items (adds.report ∷ []) in
      let c = to.reports_len in omega (arith, a, b, c));
  held_len = (let a = ap length adds.held in let b = length-append p.held.items (held_after z bytes ∷ []) in
      let c = to.held_len in omega (arith, a, b, c));
  readings = λ i y b below ey eb'. elim (cases_lt i n) [
    | inl l ↦ ap (λ rs. slice_get rs i) adds.readings ∙ slice_get-append_left p.logs.readings _ i
        (let c = to.readings_len in omega (arith, l, c)) ∙ to.readings i y b l ey eb'
    | inr g ↦ (let at : i ≡ n = omega (arith, below, g) in
        let sz : z ≡ y = (let s : Some z ≡ Some y = sym ez ∙ ap (slice_get layout) (sym at) ∙ ey in cc) in
        let sb : bytes ≡ b = (let s : Some bytes ≡ Some b = sym eb ∙ ap (slice_get spans) (sym at) ∙ eb' in cc) in
        ap (λ rs. slice_get rs i) adds.readings ∙ slice_get-last p.logs.readings (Some (zone_reading z bytes)) i
        (at ∙ sym to.readings_len)
        ∙ ap (λ (y' : Zone). Some (Some (zone_reading y' bytes))) sz
        ∙ ap (λ (b' : List ℕ). Some (Some (zone_reading y b'))) sb)
  ];
  reports = λ i y b kn r below ey eb' ekn er. elim (get-pushed p.reports.items adds.report i r
      (ap (λ rs. slice_get rs i) (sym adds.reports) ∙ er)) [
        | inl o ↦ to.reports i y b kn r (let c = to.reports_len in let l = o.0 in omega (arith, l, c)) ey eb' ekn o.1
        | inr a ↦ (let at : i ≡ n = a.0 ∙ to.reports_len in
            let sz : z ≡ y = (let s : Some z ≡ Some y = sym ez ∙ ap (slice_get layout) (sym at) ∙ ey in cc) in
            let sb : bytes ≡ b = (let s : Some bytes ≡ Some b = sym eb ∙ ap (slice_get spans) (sym at) ∙ eb' in cc) in
            let sk : k ≡ kn = (let s : Some k ≡ Some kn = sym ek ∙ ap (slice_get known) (sym at) ∙ ekn in cc) in
            ap report_seen (sym a.1) ∙ adds.told ∙ ap (λ (y' : Zone). report_zone y' k (zone_reading y' bytes)) sz
            ∙ ap (λ (b' : List ℕ). report_zone y k (zone_reading y b')) sb
            ∙ ap (λ (k' : KnownZone). report_zone y k' (zone_reading y b)) sk)
      ];
  held = λ i y b h below ey eb' eh. elim (get-pushed p.held.items (held_after z bytes) i h
      (ap (λ hs. slice_get hs i) (sym adds.held) ∙ eh)) [
        | inl o ↦ to.held i y b h (let c = to.held_len in let l = o.0 in omega (arith, l, c)) ey eb' o.1
        | inr a ↦ (let at : i ≡ n = a.0 ∙ to.held_len in
            let sz : z ≡ y = (let s : Some z ≡ Some y = sym ez ∙ ap (slice_get layout) (sym at) ∙ ey in cc) in
            let sb : bytes ≡ b = (let s : Some bytes ≡ Some b = sym eb ∙ ap (slice_get spans) (sym at) ∙ eb' in cc) in
            sym a.1 ∙ ap (λ (y' : Zone). held_after y' bytes) sz ∙ ap (held_after y) sb)
      ];
}

-- the zone and the span at a place
pub record SpanAt (layout : List Zone) (spans : List (List ℕ)) (i : ℕ) (z : Zone) (bytes : List ℕ) : Type 0 where
  pub zone : slice_get layout i ≡ Some z
  pub span : slice_get spans i ≡ Some bytes
  pub size : length bytes ≡ z.size

pub span_at : (layout zs : List Zone) (d : Zone) (spans all : List (List ℕ)) (i : ℕ) (bytes : List ℕ)
    → SpansFit layout spans → zs ≡ layout → all ≡ spans → i < length zs → bytes ≡ get_or all i bytes
    → SpanAt layout spans i (get_or zs i d) bytes
span_at layout zs d spans all i bytes fit ezs eall below eb =
    let below' : i < length layout = subst (λ (l : List Zone). i < length l) ezs below in
    let ez : slice_get layout i ≡ Some (get_or zs i d) = ap (λ (l : List Zone). slice_get l i) (sym ezs)
    ∙ slice_get-get_or zs i d below in
    let gb : slice_get spans i ≡ Some bytes = ap (λ (l : List (List ℕ)). slice_get l i) (sym eall)
    ∙ slice_get_read all (length all) i bytes refl (let a = ap length eall in let b = fit.count in
    omega (arith, a, b, below')) eb in
    record { zone = ez; span = gb; size = fit.sizes i (get_or zs i d) bytes ez gb }

item_copied : (known : List KnownZone) (i : ℕ) (k : Option (Bor KnownZone)) → IsItemAt known i k
    → option_copied k ≡ slice_get known i
item_copied known i None at = sym (slice_get_past known i at.3)
item_copied known i (Some k) at = sym (slice_get_read known (length known) i k.now refl at.3.0 at.1)

-- what is known at a place
pub known_got : (count : ℕ) (known : List KnownZone) (i : ℕ) (k : Option (Bor KnownZone)) → i < count
    → IsItemAt known i k → slice_get (known_all count known) i ≡ Some (known_or (option_copied k))
known_got count known i k below at = all_at count known i below
    ∙ ap (λ (o : Option KnownZone). Some (known_or o)) (sym (item_copied known i k at))

-- ---- the logs alone

-- of the first n zones the readings
pub record LogsTo (layout : List Zone) (spans : List (List ℕ)) (n : ℕ) (logs : SavedLogs) : Type 0 where
  pub zones : logs.zones ≡ layout
  pub len : length logs.readings ≡ n
  pub readings : (i : ℕ) (z : Zone) (bytes : List ℕ) → i < n → slice_get layout i ≡ Some z
      → slice_get spans i ≡ Some bytes → slice_get logs.readings i ≡ Some (Some (zone_reading z bytes))

pub logs_none : (layout : List Zone) (spans : List (List ℕ)) (logs : SavedLogs)
    → logs ≡ record { zones = layout; readings = [] } → LogsTo layout spans 0 logs
logs_none layout spans logs e = record {
  zones = ap (λ (l : SavedLogs). l.zones) e;
  len = ap (λ (l : SavedLogs). length l.readings) e;
  readings = λ i z bytes below ez eb. absurd (omega (arith, below));
}

pub logs_next : (layout : List Zone) (spans : List (List ℕ)) (n : ℕ) (old new : SavedLogs) (z : Zone)
    (bytes : List ℕ) (r : ZoneReading) → LogsTo layout spans n old → slice_get layout n ≡ Some z
    → slice_get spans n ≡ Some bytes → r ≡ zone_reading z bytes
    → new ≡ record old { readings = old.readings ++ Some r ∷ [] } → LogsTo layout spans (n + 1) new
logs_next layout spans n old new z bytes r to ez eb er e = record {
  zones = ap (λ (l : SavedLogs). l.zones) e ∙ to.zones;
  len = (let a = ap (λ (l : SavedLogs). length l.readings) e in let b = length-append old.readings (Some r ∷ []) in
      let c = to.len in omega (arith, a, b, c));
  readings = λ i y b below ey eb'. elim (cases_lt i n) [
    | inl l ↦ ap (λ (k : SavedLogs). slice_get k.readings i) e
        ∙ slice_get-append_left old.readings _ i (let c = to.len in omega (arith, l, c)) ∙ to.readings i y b l ey eb'
    | inr g ↦ (let at : i ≡ n = omega (arith, below, g) in
        let sz : z ≡ y = (let s : Some z ≡ Some y = sym ez ∙ ap (slice_get layout) (sym at) ∙ ey in cc) in
        let sb : bytes ≡ b = (let s : Some bytes ≡ Some b = sym eb ∙ ap (slice_get spans) (sym at) ∙ eb' in cc) in
        ap (λ (k : SavedLogs). slice_get k.readings i) e
        ∙ slice_get-last old.readings (Some r) i (at ∙ sym to.len)
        ∙ ap (λ (q : ZoneReading). Some (Some q)) er
        ∙ ap (λ (y' : Zone). Some (Some (zone_reading y' bytes))) sz
        ∙ ap (λ (b' : List ℕ). Some (Some (zone_reading y b'))) sb)
  ];
}

pub logs_whole : (layout : List Zone) (spans : List (List ℕ)) (logs : SavedLogs)
    → LogsTo layout spans (length layout) logs → AreLogs layout spans logs
logs_whole layout spans logs to = record {
  zones = to.zones;
  len = to.len;
  readings = λ i z bytes ez eb. to.readings i z bytes (slice_get_within layout i z ez) ez eb;
}
