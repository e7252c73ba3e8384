-- A stop of the machine is a stop of the state for which it stands
use Rattle.std.proofs.Common.{◌≡◌, ℕ, suc, ◌<◌, ◌≤◌, List, [], ◌∷◌, ◌++◌, length, map, flat_map, slice_get, refl, sym}
use Rattle.std.proofs.Common.{ap, ◌∙◌, subst, arith, Option, Some, None}
use Rattle.std.proofs.lemmas.List.{length-map}
use Rattle.std.specs.Prelude.{zip, filter, sum_by, ◌==◌}
use Rattle.std.proofs.lemmas.List.Concat.{flat_map-cons}
use Rattle.std.specs.List.{concat, range_with_len, list_any}
use Rattle.std.specs.Option.{option_map}
use Rattle.std.proofs.lemmas.Option.{slice_get_within}
use Rattle.list_laws.proofs.Slices.{length-slice_range, get_or-slice_range}
use Rattle.circular_buffer.proofs.Places.{slice_get-some}
use Rattle.zone_spec.specs.declared.Zone.{Zone}
use Rattle.zone_spec.specs.declared.Words.{Words}
use Rattle.zone_spec.specs.declared.Pair.{Pair}
use Rattle.zone_spec.specs.Parts.{Header, part_bytes, part_word, words_in, standing_words}
use Rattle.zone_spec.specs.Stages.{Stage, stage_count}
use Rattle.zone_spec.specs.Calls.{call_stages}
use Rattle.zone_spec.specs.Pairs.{pairs_from, pair_of}
use Rattle.zone_spec.specs.Told.{Call, kind_of}
use Rattle.zone_spec.specs.Touched.{touched_by, runs_of}
use Rattle.machine_spec.specs.States.{Flight, OffZone, LiveZone, LiveState}
use Rattle.machine_spec.specs.Stop.{cut_of, zone_stopped, stopped, live_image}
use Rattle.machine_laws.proofs.Lists.{get-map, get-zip-map, length-zip-map}
use Rattle.ring_laws.proofs.Images.{length-after_stores}
use Rattle.ring_laws.proofs.HeaderWords.{words_same}
use Rattle.ring_laws.proofs.Fixes.{word_left}
use Rattle.prz_region.specs.CutRegion.{span}
use Rattle.store_steps.specs.Flying.{Flying}
use Rattle.store_steps.specs.Counts.{total_of, pairs_of, touched_runs}
use Rattle.ramoops.specs.declared.known.KnownZone.{KnownZone}
use Rattle.ramoops.specs.SeenCut.{cut_of_flight}
use Rattle.ramoops.specs.Stopped.{stop_zone}
use Rattle.ramoops.specs.OffSeen.{shown_cut, StandsForKnown, StandsOff}
use Rattle.ramoops.specs.LiveSeen.{LiveSeen, StandsForFlight, StandsForSome, StandsForZone, StandsLive}
use Rattle.machine_laws.proofs.OffStates.{stopped-state}
use Rattle.ramoops.specs.Running.{IsRunning}
use Rattle.ramoops.specs.Resting.{IsResting}
use Rattle.ramoops.proofs.Begun.{here}
use Rattle.ramoops.proofs.CallPremises.{own, over}

-- the words before a cut are those of its header
header_at : (z : Zone) (x : List ℕ) → 12 ≤ length x → words_in z.byte_order (part_word z x Header) ≡ standing_words z x
unfolding part_bytes
header_at z x long =
    let n : length (part_bytes z x Header) ≡ 12 = length-slice_range x 0 12 long in
    words_same _ _ _ (λ i h. word_left z x Header i (omega (arith, n, h))
    ∙ sym (get_or-slice_range x 0 12 i (omega (arith, h))))

-- a flight's cut shows what the flight tells
module _ (z : Zone) (bytes : List ℕ) (seen : Flying) (f : Flight) (long : 12 ≤ length bytes)
    (s : StandsForFlight z bytes seen f) where
  before_long : 12 ≤ length f.image
  before_long = (let a = ap length s.image.underway.image in
      let b = length-after_stores f.image s.image.underway.done in omega (arith, a, b, long))

  words : seen.words ≡ words_in z.byte_order (part_word z f.image Header)
  words = sym s.image.words ∙ ap (λ (y : Zone). standing_words y f.image) s.zone ∙ sym (header_at z f.image before_long)

  stages : {X : Type 0} (P : Zone → List Stage → X) → P seen.zone (call_stages seen.zone seen.words seen.call)
      ≡ P z (call_stages z (words_in z.byte_order (part_word z f.image Header)) f.call)
  stages P =
      ap (λ (y : Zone). P y (call_stages y seen.words seen.call)) s.zone
      ∙ ap (λ (w : Words). P z (call_stages z w seen.call)) words
      ∙ ap (λ (c : Call). P z (call_stages z (words_in z.byte_order (part_word z f.image Header)) c)) s.call

  pub flight_shows : cut_of_flight seen ≡ shown_cut z (cut_of z f)
  unfolding shown_cut
  flight_shows =
      ap (λ (c : Call). record {
        kind = kind_of c;
        made = seen.made;
        total = total_of seen;
        pairs = pairs_of seen;
        runs = touched_runs seen;
      }) s.call
      ∙ ap (λ (n : ℕ). record {
        kind = kind_of f.call;
        made = n;
        total = total_of seen;
        pairs = pairs_of seen;
        runs = touched_runs seen;
      }) s.made
      ∙ ap (λ (n : ℕ). record {
        kind = kind_of f.call;
        made = f.made;
        total = n;
        pairs = pairs_of seen;
        runs = touched_runs seen;
      }) (stages (λ y gs. sum_by (stage_count y) gs))
      ∙ ap (λ (ps : List Pair). record {
        kind = kind_of f.call;
        made = f.made;
        total = sum_by (stage_count z) (call_stages z (words_in z.byte_order (part_word z f.image Header)) f.call);
        pairs = ps;
        runs =
            touched_runs seen;
      })
      (stages (λ y gs. pairs_from (pair_of seen.words) gs)
      ∙ ap (λ (w : Words). pairs_from (pair_of w) (call_stages z (words_in z.byte_order (part_word z f.image Header)) f.call))
      words)
      ∙ ap (λ (rs : List (ℕ × ℕ)). record {
        kind = kind_of f.call;
        made = f.made;
        total = sum_by (stage_count z) (call_stages z (words_in z.byte_order (part_word z f.image Header)) f.call);
        pairs =
            pairs_from (pair_of (words_in z.byte_order (part_word z f.image Header)))
            (call_stages z (words_in z.byte_order (part_word z f.image Header)) f.call);
        runs = rs;
      })
      (stages (λ y gs. runs_of (filter (λ b. list_any (λ c. c == b) (touched_by y gs)) (range_with_len 0 y.blocks))))

cut_shows : (z : Zone) (bytes : List ℕ) (o : Option Flying) (p : Option Flight) → 12 ≤ length bytes
    → StandsForSome z bytes o p → option_map cut_of_flight o ≡ option_map (shown_cut z) (option_map (cut_of z) p)
cut_shows z bytes None None long s = refl
cut_shows z bytes None (Some f) long s = absurd s
cut_shows z bytes (Some f) None long s = absurd s
cut_shows z bytes (Some f) (Some g) long s = ap Some (flight_shows z bytes f g long s)

-- the zones' bytes end to end
images : (layout : List Zone) (spans : List (List ℕ)) (live : List LiveZone) → length spans ≡ length layout
    → length live ≡ length layout
    → ((i : ℕ) (b : List ℕ) (l : LiveZone) → slice_get spans i ≡ Some b → slice_get live i ≡ Some l → l.image ≡ b)
    → concat spans ≡ flat_map (λ (l : LiveZone). l.image) live
images [] [] [] a b same = refl
images [] [] (l ∷ ls) a b same = absurd (omega (arith, b))
images [] (x ∷ xs) live a b same = absurd (omega (arith, a))
images (z ∷ zs) [] live a b same = absurd (omega (arith, a))
images (z ∷ zs) (x ∷ xs) [] a b same = absurd (omega (arith, b))
images (z ∷ zs) (x ∷ xs) (l ∷ ls) a b same =
    ap (λ (y : List ℕ). y ++ concat xs) (sym (same 0 x l refl refl))
    ∙ ap (λ (y : List ℕ). l.image ++ y) (images zs xs ls (omega (arith, a)) (omega (arith, b))
    (λ i c m ec em. same (suc i) c m ec em))
    ∙ sym (flat_map-cons (λ (k : LiveZone). k.image) l ls)

pub image_is : (v : LiveSeen) (s : LiveState) → StandsLive v.layout v.mem v s
    → concat v.spans.spans ++ v.spans.rest ≡ live_image s
image_is v s stands =
    ap (λ (y : List ℕ). y ++ v.spans.rest) (images v.layout v.spans.spans s.zones stands.spans stands.count
    (λ i b l eb el. by i b l eb el)) ∙ ap (λ (y : List ℕ). live_image (record s { rest = y })) (sym stands.rest)
  where
    by : (i : ℕ) (b : List ℕ) (l : LiveZone) → slice_get v.spans.spans i ≡ Some b → slice_get s.zones i ≡ Some l
        → l.image ≡ b
    by i b l eb el =
        let below : i < length v.layout = (let n = slice_get_within v.spans.spans i b eb in let m = stands.spans in
        omega (arith, n, m)) in
        let z = slice_get-some v.layout i below in
        let h = slice_get-some v.zones i (let m = stands.kept in omega (arith, below, m)) in
        (stands.zones i z.0 b h.0 l z.1 eb h.1 el).image

pub image_left : (v : LiveSeen) (image : List ℕ) → image ≡ concat v.spans.spans ++ v.spans.rest
    → (layout : List Zone) (mem : ℕ) (s : LiveState) → StandsLive layout mem v s → image ≡ live_image s
image_left v image is layout mem s stands = is ∙ image_is v s (own layout mem v s stands)

module _ (v : LiveSeen) (running : IsRunning v) where
  -- every zone's bytes have room for a header
  long_here : (i : ℕ) (z : Zone) → slice_get v.layout i ≡ Some z → 12 ≤ length (span v.spans i)
  long_here i z ez =
      let at = here v.layout v.mem v running.state running.stands i (slice_get_within v.layout i z ez) in
      let size = (running.sound.zones.1 i z at.live ez at.of_state).size.0 in
      let same = ap length at.stands_for.image in
      let least = (running.lies.valid i z ez).0.at_least in
      omega (arith, size, same, least)

  stopped_own : (image : List ℕ) (known : List KnownZone) (s : LiveState)
      → image ≡ concat v.spans.spans ++ v.spans.rest → known ≡ map stop_zone v.zones → StandsLive v.layout v.mem v s
      → StandsOff v.layout v.mem (record { layout = v.layout; mem = v.mem; image = image; zones = known })
      (stopped v.layout s)
  stopped_own image known s ei ek stands = record {
    same_layout = refl;
    same_mem = refl;
    image = ei ∙ image_is v s stands;
    kept = ap length ek ∙ length-map v.zones stop_zone ∙ stands.kept;
    count = length-zip-map zone_stopped v.layout s.zones stands.count;
    zones = λ i z k o ez gk go. by i z k o ez (ap (λ ks. slice_get ks i) (sym ek) ∙ gk) go;
  }
    where
      by : (i : ℕ) (z : Zone) (k : KnownZone) (o : OffZone) → slice_get v.layout i ≡ Some z
          → slice_get (map stop_zone v.zones) i ≡ Some k → slice_get (map zone_stopped (zip v.layout s.zones)) i
          ≡ Some o → StandsForKnown z k o
      by i z k o ez gk go =
          let at = here v.layout v.mem v s stands i (slice_get_within v.layout i z ez) in
          let same : at.zone ≡ z = (let g : Some at.zone ≡ Some z = sym at.of_layout ∙ ez in cc) in
          let zone : StandsForZone z (span v.spans i) at.held at.live =
          subst (λ (y : Zone). StandsForZone y (span v.spans i) at.held at.live) same at.stands_for in
          let ko : stop_zone at.held ≡ k = get-map stop_zone v.zones i at.held k at.of_held gk in
          let lo = get-zip-map zone_stopped v.layout s.zones i z o ez go in
          let live : lo.0 ≡ at.live = (let g : Some lo.0 ≡ Some at.live = sym lo.1 ∙ at.of_state in cc) in
          let oo : zone_stopped (z, at.live) ≡ o = ap (λ (l : LiveZone). zone_stopped (z, l)) (sym live) ∙ lo.2 in
          subst (λ (x : KnownZone). StandsForKnown z x o) ko
          (subst (λ (x : OffZone). StandsForKnown z (stop_zone at.held) x) oo (record {
            told = ap Some (sym zone.told);
            cut = cut_shows z (span v.spans i) at.held.flight at.live.flight (long_here i z ez) zone.flight;
          }))

  pub stopped_stands : (image : List ℕ) (known : List KnownZone) → image ≡ concat v.spans.spans ++ v.spans.rest
      → known ≡ map stop_zone v.zones → (layout : List Zone) (mem : ℕ) (s : LiveState)
      → StandsLive layout mem v s → StandsOff layout mem (record {
        layout = v.layout;
        mem = v.mem;
        image = image;
        zones = known;
      }) (stopped layout s)
  stopped_stands image known ei ek layout mem s stands =
      over layout mem v s (λ l m. StandsOff l m (record {
        layout = v.layout;
        mem = v.mem;
        image = image;
        zones = known;
      }) (stopped l s)) stands (stopped_own image known s ei ek (own layout mem v s stands))

  -- the image and the zones are as many as they were
  pub stopped_sizes : (image : List ℕ) (known : List KnownZone) → image ≡ concat v.spans.spans ++ v.spans.rest
      → known ≡ map stop_zone v.zones → (length image ≡ v.mem) × (length known ≡ length v.layout)
  stopped_sizes image known ei ek = (
    ap length (ei ∙ image_is v running.state running.stands) ∙ running.sound.image.0,
    ap length ek ∙ length-map v.zones stop_zone ∙ running.stands.kept,
  )

  pub stopped_rests : (image : List ℕ) (known : List KnownZone) → image ≡ concat v.spans.spans ++ v.spans.rest
      → known ≡ map stop_zone v.zones
      → IsResting (record { layout = v.layout; mem = v.mem; image = image; zones = known })
  stopped_rests image known ei ek = record {
    lies = running.lies;
    state = stopped v.layout running.state;
    stands = stopped_own image known running.state ei ek running.stands;
    sound = stopped-state v.layout v.mem running.lies running.state running.sound;
  }
