-- A boot of the machine is one of the states for which it stands
use Rattle.std.proofs.Common.{◌≡◌, ℕ, ◌+◌, ◌<◌, ◌≤◌, List, [], ◌++◌, length, map, drop, slice_get, slice_range, refl}
use Rattle.std.proofs.Common.{sym, ap, ◌∙◌, subst, arith, Option, Some, None}
use Rattle.std.specs.Prelude.{zip}
use Rattle.std.specs.List.{concat}
use Rattle.std.specs.Option.{option_map}
use Rattle.std.proofs.lemmas.List.{length-map}
use Rattle.std.proofs.lemmas.List.Concat.{concat_is}
use Rattle.std.proofs.lemmas.List.Folds.{flat_map-map}
use Rattle.std.proofs.lemmas.Option.{slice_get-get_or, slice_get_within}
use Rattle.list_laws.proofs.Gets.{slice_get-map_some}
use Rattle.circular_buffer.proofs.Places.{slice_get-some}
use Rattle.zone_spec.specs.declared.Zone.{Zone}
use Rattle.zone_spec.specs.Parts.{AreBytes}
use Rattle.zone_spec.specs.Layouts.{IsLayout, zones_end}
use Rattle.zone_spec.specs.Reading.{ZoneReading, zone_reading}
use Rattle.zone_spec.specs.Stores.{after_stores}
use Rattle.zone_spec.specs.Boot.{boot_stores}
use Rattle.zone_spec.specs.Verdicts.{verdict_of}
use Rattle.zone_spec.specs.Cut.{Cut, CutReport}
use Rattle.machine_spec.specs.Zones.{zone_bytes}
use Rattle.machine_spec.specs.States.{OffZone, OffState, LiveZone}
use Rattle.machine_spec.specs.Off.{fresh}
use Rattle.machine_spec.specs.Boot.{booted_zone, booted}
use Rattle.machine_spec.specs.Report.{ZoneReport, report_cut as reported_cut, zone_report, report}
use Rattle.machine_spec.specs.Erasures.{saved_logs}
use Rattle.machine_laws.proofs.Lists.{get-map, get-zip-map, length-zip-map, zone_within}
use Rattle.machine_laws.proofs.Zones.{zone_image}
use Rattle.machine_laws.proofs.OffStates.{booted-state, fresh-state}
use Rattle.machine_laws.proofs.Sessions.{image_is_zones_and_rest}
use Rattle.machine_laws.proofs.OffStates.{booted-state}
use Rattle.machine_laws.proofs.ZoneReads.{sound_state_reads_zones}
use Rattle.prz_region.specs.CutRegion.{CutRegion, span, cut_at}
use Rattle.prz_read.specs.Saving.{SavedLogs, saved}
use Rattle.ramoops.specs.declared.zones.HeldZone.{HeldZone}
use Rattle.ramoops.specs.declared.known.KnownZone.{KnownZone}
use Rattle.ramoops.specs.declared.report.ZoneReport.{ZoneReport as RustZoneReport}
use Rattle.ramoops.specs.OffSeen.{OffSeen, shown_cut, known_all, StandsForKnown, StandsOff}
use Rattle.ramoops.specs.LiveSeen.{LiveSeen, StandsForZone, StandsLive}
use Rattle.ramoops.specs.Running.{IsHeld, IsRunning}
use Rattle.ramoops.specs.Reports.{report_seen, report_cut, report_zone}
use Rattle.ramoops_layout.specs.Laid.{params_of, zones_of}
use Rattle.ramoops.specs.declared.off.OpenOff.{OpenOff}
use Rattle.ramoops.specs.declared.booting.Prepared.{Prepared}
use Rattle.ramoops.specs.Made.{boot_writes}
use Rattle.ramoops.specs.Booting.{SpansFit, held_after, PreparesTo, AreLogs, SettlesTo, IsOpen, seen_off}
use Rattle.ramoops.specs.Booted.{Booted}
use Rattle.ramoops.specs.Resting.{IsResting}
use Rattle.ramoops.proofs.KnownZones.{all_len}
use Rattle.ramoops.proofs.Lists.{same_items}

module _ (layout : List Zone) (mem : ℕ) (image : List ℕ) (lies : IsLayout layout mem) (size : length image ≡ mem)
    (bytes : AreBytes image) where
  -- a zone lies in the image
  inside : (i : ℕ) (z : Zone) → slice_get layout i ≡ Some z → z.at + z.size ≤ length image
  inside i z ez = (let a = (lies.valid i z ez).1 in let b = zone_within layout i z ez in let c = lies.within in
      omega (arith, a, b, c, size))

  pub cut_fits : SpansFit layout (cut_at layout image).spans
  cut_fits = record {
    count = length-map layout (λ (z : Zone). slice_range image z.at (z.at + z.size));
    sizes = λ i z b ez eb.
        ap length (sym (get-map (λ (y : Zone). slice_range image y.at (y.at + y.size)) layout i z b ez eb))
        ∙ (zone_image z (lies.valid i z ez).0 image (inside i z ez) bytes).0;
  }

  pub cut_whole : concat (cut_at layout image).spans ++ (cut_at layout image).rest ≡ image
  cut_whole =
      ap (λ (xs : List ℕ). xs ++ drop (zones_end layout) image)
      (concat_is (map (λ (z : Zone). slice_range image z.at (z.at + z.size)) layout)
      ∙ flat_map-map (λ (x : List ℕ). x) (λ (z : Zone). slice_range image z.at (z.at + z.size)) layout)
      ∙ image_is_zones_and_rest layout mem image lies size

  -- a span is its zone's bytes
  pub span_is : (i : ℕ) (z : Zone) → slice_get layout i ≡ Some z → span (cut_at layout image) i ≡ zone_bytes z image
  span_is i z ez =
      let e : slice_get (cut_at layout image).spans i ≡ Some (zone_bytes z image) =
      slice_get-map_some (λ (y : Zone). slice_range image y.at (y.at + y.size)) layout i z ez in
      let g : slice_get (cut_at layout image).spans i ≡ Some (span (cut_at layout image) i) =
      slice_get-get_or (cut_at layout image).spans i [] (slice_get_within (cut_at layout image).spans i _ e) in
      let s : Some (span (cut_at layout image) i) ≡ Some (zone_bytes z image) = sym g ∙ e in cc

  pub span_got : (i : ℕ) (z : Zone) → slice_get layout i ≡ Some z
      → slice_get (cut_at layout image).spans i ≡ Some (zone_bytes z image)
  span_got i z ez = slice_get-map_some (λ (y : Zone). slice_range image y.at (y.at + y.size)) layout i z ez

  module _ (new : CutRegion) (held : List HeldZone) (settled : SettlesTo layout (cut_at layout image) new
      (length layout)) (held_len : length held ≡ length layout)
      (held_is : (i : ℕ) (z : Zone) (b : List ℕ) (h : HeldZone) → slice_get layout i ≡ Some z
      → slice_get (cut_at layout image).spans i ≡ Some b → slice_get held i ≡ Some h → h ≡ held_after z b) where
    abbrev after : LiveSeen
    after = record { layout = layout; mem = mem; spans = new; zones = held; cursor = 0 }

    -- the machine stands for the booted state
    pub booted_stands : (s : OffState) → image ≡ s.image → StandsLive layout mem after (booted layout s)
    booted_stands s same = record {
      same_layout = refl;
      same_mem = refl;
      spans = settled.count ∙ cut_fits.count;
      kept = held_len;
      count = length-map layout (booted_zone s.image);
      zones = by;
      rest = ap (drop (zones_end layout)) (sym same) ∙ sym settled.rest;
      cursor = refl;
    }
      where
        by : (i : ℕ) (z : Zone) (b : List ℕ) (h : HeldZone) (live : LiveZone) → slice_get layout i ≡ Some z
            → slice_get new.spans i ≡ Some b → slice_get held i ≡ Some h
            → slice_get (map (booted_zone s.image) layout) i ≡ Some live → StandsForZone z b h live
        by i z b h live ez eb eh el =
            let is_live : booted_zone image z ≡ live = ap (λ (im : List ℕ). booted_zone im z) same
            ∙ get-map (booted_zone s.image) layout i z live ez el in
            let is_held : h ≡ held_after z (zone_bytes z image) =
            held_is i z (zone_bytes z image) h ez (span_got i z ez) eh in
            let got : b ≡ span new i = (let g : Some b ≡ Some (span new i) = sym eb
            ∙ slice_get-get_or new.spans i [] (slice_get_within new.spans i b eb) in cc) in
            let stored : b ≡ after_stores (zone_bytes z image) (boot_stores z (zone_bytes z image)) =
            got ∙ settled.made i z (slice_get_within layout i z ez) ez
            ∙ ap (λ (x : List ℕ). after_stores x (boot_stores z x)) (span_is i z ez) in
            subst (λ (l : LiveZone). StandsForZone z b h l) is_live
            (subst (λ (g : HeldZone). StandsForZone z b g (booted_zone image z)) (sym is_held)
            (record { image = sym stored; told = refl; flight = tt }))

    pub booted_runs : IsRunning after
    booted_runs = record {
      lies = lies;
      held = λ i z h ez eh.
          let is_held : h ≡ held_after z (zone_bytes z image) =
          held_is i z (zone_bytes z image) h ez (span_got i z ez) eh in
          subst (IsHeld z) (sym is_held) (record {
            room = refl;
            dump = λ f e d. (let n : ◌≡◌ {A = ℕ} 0 1 = cc in absurd (omega (arith, n)));
          });
      state = booted layout (fresh layout image);
      stands = booted_stands (fresh layout image) refl;
      sound = booted-state layout mem lies (fresh layout image) (fresh-state layout mem lies image size bytes);
    }

-- the report of a zone, by what is kept of it
cut_reported : (z : Zone) (reading : ZoneReading) (o : Option Cut)
    → option_map (report_cut z reading) (option_map (shown_cut z) o) ≡ reported_cut z reading o
unfolding shown_cut
cut_reported z reading None = refl
cut_reported z reading (Some cut) = refl

zone_reported : (z : Zone) (known : KnownZone) (zone : OffZone) (now : List ℕ) → StandsForKnown z known zone
    → report_zone z known (zone_reading z now) ≡ zone_report z zone now
zone_reported z known zone now stands =
    ap (λ (t : Option (List ℕ)). record {
      name = z.name;
      verdict = verdict_of t (zone_reading z now).log;
      cut = option_map (report_cut z (zone_reading z now)) known.cut;
    }) stands.told
    ∙ ap (λ (c : Option CutReport). record {
      name = z.name;
      verdict = verdict_of zone.told (zone_reading z now).log;
      cut = c;
    })
    (ap (option_map (report_cut z (zone_reading z now))) stands.cut ∙ cut_reported z (zone_reading z now) zone.cut)

module _ (layout : List Zone) (mem : ℕ) (image : List ℕ) (lies : IsLayout layout mem) (size : length image ≡ mem)
    (bytes : AreBytes image) (known : List KnownZone) (s : OffState) (same : image ≡ s.image)
    (kept : length known ≡ length layout) (count : length s.zones ≡ length layout)
    (stands : (i : ℕ) (z : Zone) (k : KnownZone) (zone : OffZone) → slice_get layout i ≡ Some z
    → slice_get known i ≡ Some k → slice_get s.zones i ≡ Some zone → StandsForKnown z k zone) where
  pub reports_are : (reports : List RustZoneReport) → length reports ≡ length layout
      → ((i : ℕ) (z : Zone) (b : List ℕ) (k : KnownZone) (r : RustZoneReport) → slice_get layout i ≡ Some z
      → slice_get (cut_at layout image).spans i ≡ Some b → slice_get known i ≡ Some k
      → slice_get reports i ≡ Some r → report_seen r ≡ report_zone z k (zone_reading z b))
      → map report_seen reports ≡ report layout s
  reports_are reports len is =
      same_items (map report_seen reports) (report layout s)
      (length-map reports report_seen ∙ len ∙ sym (length-zip-map
      (λ (p : Zone × OffZone). zone_report p.0 p.1 (zone_bytes p.0 s.image)) layout s.zones count)) by
    where
      by : (i : ℕ) (x y : ZoneReport) → slice_get (map report_seen reports) i ≡ Some x
          → slice_get (report layout s) i ≡ Some y → x ≡ y
      by i x y ex ey =
          let below : i < length layout = (let a = slice_get_within (map report_seen reports) i x ex in
          let b = length-map reports report_seen in omega (arith, a, b, len)) in
          let z = slice_get-some layout i below in
          let k = slice_get-some known i (omega (arith, below, kept)) in
          let r = slice_get-some reports i (omega (arith, below, len)) in
          let zone = get-zip-map (λ (p : Zone × OffZone). zone_report p.0 p.1 (zone_bytes p.0 s.image))
          layout s.zones i z.0 y z.1 ey in
          sym (get-map report_seen reports i r.0 x r.1 ex) ∙ is i z.0 (zone_bytes z.0 image) k.0 r.0 z.1
          (span_got layout mem image lies size bytes i z.0 z.1) k.1 r.1
          ∙ zone_reported z.0 k.0 zone.0 (zone_bytes z.0 image) (stands i z.0 k.0 zone.0 z.1 k.1 zone.1)
          ∙ ap (λ (im : List ℕ). zone_report z.0 zone.0 (zone_bytes z.0 im)) same ∙ zone.2

module _ (layout : List Zone) (mem : ℕ) (image : List ℕ) (lies : IsLayout layout mem) (size : length image ≡ mem)
    (bytes : AreBytes image) (s : OffState) (same : image ≡ s.image) where
  pub logs_are : (logs : SavedLogs) → AreLogs layout (cut_at layout image).spans logs
      → saved logs ≡ saved_logs layout (booted layout s)
  logs_are logs are =
      ap (λ (zs : List Zone). zip zs logs.readings) are.zones
      ∙ ap (λ (rs : List (Option ZoneReading)). zip layout rs)
      (same_items logs.readings (booted layout s).logs (are.len
      ∙ sym (length-map layout (λ (z : Zone). Some (zone_reading z (zone_bytes z s.image))))) by)
    where
      by : (i : ℕ) (x y : Option ZoneReading) → slice_get logs.readings i ≡ Some x
          → slice_get (booted layout s).logs i ≡ Some y → x ≡ y
      by i x y ex ey =
          let z = slice_get-some layout i (let a = slice_get_within logs.readings i x ex in let b = are.len in
          omega (arith, a, b)) in
          let is : Some x ≡ Some (Some (zone_reading z.0 (zone_bytes z.0 image))) =
          sym ex ∙ are.readings i z.0 (zone_bytes z.0 image) z.1
          (span_got layout mem image lies size bytes i z.0 z.1) in
          let x_is : x ≡ Some (zone_reading z.0 (zone_bytes z.0 image)) = cc in
          x_is ∙ ap (λ (im : List ℕ). Some (zone_reading z.0 (zone_bytes z.0 im))) same
          ∙ get-map (λ (y' : Zone). Some (zone_reading y' (zone_bytes y' s.image))) layout i z.0 y z.1 ey

-- ---- by an image that is open
module _ (v : OffSeen) (o : OpenOff) (is : IsOpen v o) where
  abbrev L : List Zone
  L = zones_of o.layout

  abbrev M : ℕ
  M = (params_of o.layout).mem

  abbrev K : List KnownZone
  K = known_all (length L) o.zones.items

  pub open_fits : SpansFit L o.spans.spans
  open_fits = subst (λ (c : CutRegion). SpansFit L c.spans) (sym is.spans)
      (cut_fits L M v.image is.lies is.size is.bytes)

  pub open_whole : concat o.spans.spans ++ o.spans.rest ≡ v.image
  open_whole = ap (λ (c : CutRegion). concat c.spans ++ c.rest) is.spans
      ∙ cut_whole L M v.image is.lies is.size is.bytes

  -- closed again the machine is as it was
  pub open_closed : seen_off o ≡ v
  open_closed = ap (λ (im : List ℕ). record { layout = L; mem = M; image = im; zones = K }) open_whole
      ∙ sym is.seen

  pub open_rests : IsResting (seen_off o)
  open_rests = subst IsResting (sym open_closed) is.resting

  pub logs_from : (p : Prepared) → PreparesTo L o.spans.spans K (length L) p
      → AreLogs L o.spans.spans p.logs
  logs_from p prepared = record {
    zones = prepared.zones;
    len = prepared.readings_len;
    readings = λ i z b ez eb. prepared.readings i z b (slice_get_within L i z ez) ez eb;
  }

  -- the logs are those of a boot of each state for which the machine stood
  pub logs_saved : (logs : SavedLogs) → AreLogs L o.spans.spans logs → (layout : List Zone) (mem : ℕ) (s : OffState)
      → StandsOff layout mem v s → saved logs ≡ saved_logs layout (booted layout s)
  logs_saved logs are layout mem s stands =
      let same : layout ≡ L = sym stands.same_layout ∙ ap (λ (x : OffSeen). x.layout) is.seen in
      subst (λ (l : List Zone). saved logs ≡ saved_logs l (booted l s)) (sym same)
      (logs_are L M v.image is.lies is.size is.bytes s stands.image logs
      (subst (λ (c : CutRegion). AreLogs L c.spans logs) is.spans are))

  module _ (p : Prepared) (prepared : PreparesTo L o.spans.spans K (length L) p) (new : CutRegion)
      (settled : SettlesTo L o.spans new (length L)) where
    own_prepared : PreparesTo L (cut_at L v.image).spans K (length L) p
    own_prepared = subst (λ (c : CutRegion). PreparesTo L c.spans K (length L) p) is.spans prepared

    own_settled : SettlesTo L (cut_at L v.image) new (length L)
    own_settled = subst (λ (c : CutRegion). SettlesTo L c new (length L)) is.spans settled

    own_held : (i : ℕ) (z : Zone) (b : List ℕ) (h : HeldZone) → slice_get L i ≡ Some z
        → slice_get (cut_at L v.image).spans i ≡ Some b → slice_get p.held.items i ≡ Some h → h ≡ held_after z b
    own_held i z b h ez eb eh = own_prepared.held i z b h (slice_get_within L i z ez) ez eb eh

    pub boot_runs : IsRunning (record { layout = L; mem = M; spans = new; zones = p.held.items; cursor = 0 })
    boot_runs = booted_runs L M v.image is.lies is.size is.bytes new p.held.items own_settled own_prepared.held_len
        own_held

    booted_own : (s : OffState) → StandsOff L M (record {
      layout = L;
      mem = M;
      image = v.image;
      zones = K;
    }) s
        → Booted L M s (record { layout = L; mem = M; spans = new; zones = p.held.items; cursor = 0 }) (saved p.logs)
        (map report_seen p.reports.items)
    booted_own s stands = record {
      live = booted_stands L M v.image is.lies is.size is.bytes new p.held.items own_settled own_prepared.held_len
          own_held s stands.image;
      logs = logs_are L M v.image is.lies is.size is.bytes s stands.image p.logs
          (subst (λ (c : CutRegion). AreLogs L c.spans p.logs) is.spans (logs_from p prepared));
      reports = reports_are L M v.image is.lies is.size is.bytes K s stands.image
          (all_len (length L) o.zones.items is.known) stands.count
          stands.zones p.reports.items own_prepared.reports_len
          (λ i z b k r ez eb ek er. own_prepared.reports i z b k r (slice_get_within L i z ez) ez eb ek er);
      sound = λ state. booted-state L M is.lies s state;
      reads = λ state. sound_state_reads_zones L M s is.lies state;
    }

    pub boot_is : (layout : List Zone) (mem : ℕ) (s : OffState) → StandsOff layout mem v s
        → Booted layout mem s (record { layout = L; mem = M; spans = new; zones = p.held.items; cursor = 0 })
        (saved p.logs) (map report_seen p.reports.items)
    boot_is layout mem s stands =
        let st : StandsOff layout mem (record { layout = L; mem = M; image = v.image; zones = K }) s =
        subst (λ (x : OffSeen). StandsOff layout mem x s) is.seen stands in
        let after : LiveSeen = record { layout = L; mem = M; spans = new; zones = p.held.items; cursor = 0 } in
        subst (λ (l : List Zone). Booted l mem s after (saved p.logs) (map report_seen p.reports.items)) st.same_layout
        (subst (λ (m : ℕ). Booted L m s after (saved p.logs) (map report_seen p.reports.items)) st.same_mem
        (booted_own s (subst (λ (l : List Zone). StandsOff l M
        (record { layout = L; mem = M; image = v.image; zones = K }) s) (sym st.same_layout)
        (subst (λ (m : ℕ). StandsOff layout m (record { layout = L; mem = M; image = v.image; zones = K })
        s) (sym st.same_mem) st))))

-- the stores of a boot, from the image as it was
pub boot_writes_all : (v : OffSeen) (o : OpenOff) → IsOpen v o → (new : CutRegion)
    → SettlesTo (zones_of o.layout) o.spans new (length (zones_of o.layout))
    → new.made ≡ boot_writes v.layout (cut_at v.layout v.image) (length v.layout)
boot_writes_all v o is new settled =
    settled.stores
    ∙ ap (λ (c : CutRegion). c.made ++ boot_writes (zones_of o.layout) c (length (zones_of o.layout))) is.spans
    ∙ ap (λ (l : List Zone). boot_writes l (cut_at l v.image) (length l)) (sym (ap (λ (x : OffSeen). x.layout) is.seen))
