-- The states that a machine stands for as it is told logs
use Rattle.std.proofs.Common.{◌≡◌, ◌≢◌, ℕ, zero, suc, ◌+◌, ◌<◌, Bool, true, false, cond, ◌&&◌, ◌==◌, List, [], ◌∷◌}
use Rattle.std.proofs.Common.{◌++◌, length, map, take, slice_get, get_or, set, refl, sym, ap, ap₂, ◌∙◌, subst, arith}
use Rattle.std.proofs.Common.{Option, Some, None, append-nil, true≢false, eqb-true, not, is_some, ◌%◌}
use Rattle.std.specs.Prelude.{fold, zip}
use Rattle.std.proofs.lemmas.List.{take_more}
use Rattle.std.proofs.lemmas.Option.{slice_get-get_or}
use Rattle.std.proofs.lemmas.Bool.{and_parts}
use Rattle.std.proofs.Math.Bool.{and-false}
use Rattle.circular_buffer.proofs.Places.{slice_get-some}
use Rattle.machine_spec.specs.Zones.{dump_zones}
use Rattle.std.proofs.lemmas.List.Concat.{flat_map-append}
use Rattle.move_laws.proofs.Places.{name_at}
use Rattle.list_laws.proofs.Gets.{slice_get-zip_parts, slice_get-map_some}
use Rattle.zone_spec.specs.declared.Zone.{Zone}
use Rattle.zone_spec.specs.declared.ZoneName.{ZoneName}
use Rattle.zone_spec.specs.declared.Kind.{Kind}
use Rattle.zone_spec.specs.Reading.{ZoneReading}
use Rattle.zone_spec.specs.Records.{Saved, is_of, found}
use Rattle.zone_spec.specs.Layouts.{is_zone, zone_place}
use Rattle.ramoops_layout.specs.Laid.{NamesDiffer}
use Rattle.machine_spec.specs.States.{Flight, LiveZone, LiveState}
use Rattle.machine_spec.specs.LiveZones.{flies_dump, with_zone}
use Rattle.machine_spec.specs.Moved.{is_blank, with_log, found_of, refilled}
use Rattle.ramoops.specs.LiveSeen.{LiveSeen, StandsLive, ChangesZone}
use Rattle.ramoops.specs.Refilling.{RefillsNext, RefillsAll}
use Rattle.ramoops.proofs.CallPremises.{same_kind}

-- ---- a zone by its name

pub named_alike : (name : ZoneName) (z : Zone) → is_zone name z ≡ true → z.name ≡ name
named_alike name z e =
    let b = and_parts (is_of name.kind z.name.kind) (z.name.index == name.index) e in
    ap₂ (λ (k : Kind) (n : ℕ). record { kind = k; index = n }) (same_kind name.kind z.name.kind b.0)
    (eqb-true z.name.index name.index b.1)

-- another zone has another name
other_name : (layout : List Zone) (name : ZoneName) (i j : ℕ) (z : Zone) → NamesDiffer layout
    → zone_place layout name ≡ Some i → slice_get layout j ≡ Some z → j ≢ i → is_zone name z ≡ false
other_name layout name i j z differ place ez ne = by (is_zone name z) refl
  where
    by : (b : Bool) → is_zone name z ≡ b → b ≡ false
    by false e = refl
    by true e =
        let here : zone_place layout name ≡ Some j =
        ap (zone_place layout) (sym (named_alike name z e)) ∙ differ j z ez in
        let same : Some j ≡ Some i = sym here ∙ place in
        absurd (ne (let s : j ≡ i = cc in s))

no_name : (layout : List Zone) (name : ZoneName) (j : ℕ) (z : Zone) → NamesDiffer layout
    → zone_place layout name ≡ None → slice_get layout j ≡ Some z → is_zone name z ≡ false
no_name layout name j z differ place ez = by (is_zone name z) refl
  where
    by : (b : Bool) → is_zone name z ≡ b → b ≡ false
    by false e = refl
    by true e =
        let here : zone_place layout name ≡ Some j =
        ap (zone_place layout) (sym (named_alike name z e)) ∙ differ j z ez in
        let clash : Some j ≡ None = sym here ∙ place in cc

-- ---- one log more

-- a zone after the logs of its name
abbrev told : List Saved → Zone × LiveZone → LiveZone
told zones pair = fold (λ zone (r : ZoneReading). with_log pair.0 zone r.log) pair.1 (found_of zones pair.0)

found_more : (zones : List Saved) (zone : Saved) (z : Zone)
    → found_of (zones ++ zone ∷ []) z ≡ found_of zones z ++ cond (is_zone zone.0.name z) (found zone.1) []
found_more zones zone z =
    flat_map-append (λ (s : Saved). cond (is_zone s.0.name z) (found s.1) []) zones (zone ∷ [])
    ∙ ap (λ (rs : List ZoneReading). found_of zones z ++ rs)
    (append-nil (cond (is_zone zone.0.name z) (found zone.1) []))

fold-append : {A B : Type 0} (f : B → A → B) (b : B) (xs ys : List A) → fold f b (xs ++ ys) ≡ fold f (fold f b xs) ys
fold-append f b [] ys = refl
fold-append f b (x ∷ xs) ys = fold-append f (f b x) xs ys

told_same : (zones : List Saved) (zone : Saved) (pair : Zone × LiveZone)
    → cond (is_zone zone.0.name pair.0) (found zone.1) [] ≡ [] → told (zones ++ zone ∷ []) pair ≡ told zones pair
told_same zones zone pair e =
    ap (fold (λ live (r : ZoneReading). with_log pair.0 live r.log) pair.1)
    (found_more zones zone pair.0 ∙ ap (λ (rs : List ZoneReading). found_of zones pair.0 ++ rs) e
    ∙ append-nil (found_of zones pair.0))

told_more : (zones : List Saved) (zone : Saved) (pair : Zone × LiveZone) (r : ZoneReading)
    → cond (is_zone zone.0.name pair.0) (found zone.1) [] ≡ r ∷ []
    → told (zones ++ zone ∷ []) pair ≡ with_log pair.0 (told zones pair) r.log
told_more zones zone pair r e =
    ap (fold (λ live (q : ZoneReading). with_log pair.0 live q.log) pair.1)
    (found_more zones zone pair.0 ∙ ap (λ (rs : List ZoneReading). found_of zones pair.0 ++ rs) e)
    ∙ fold-append (λ live (q : ZoneReading). with_log pair.0 live q.log) pair.1 (found_of zones pair.0) (r ∷ [])

-- ---- all zones

map_same : {A B : Type 0} (f g : A → B) (xs : List A) → ((j : ℕ) (x : A) → slice_get xs j ≡ Some x → f x ≡ g x)
    → map f xs ≡ map g xs
map_same f g [] same = refl
map_same {B = B} f g (x ∷ xs) same = ap₂ (λ (y : B) (ys : List B). y ∷ ys) (same 0 x refl)
    (map_same f g xs (λ j y e. same (suc j) y e))

map_set : {A B : Type 0} (f g : A → B) (xs : List A) (i : ℕ) (v : B)
    → ((j : ℕ) (x : A) → slice_get xs j ≡ Some x → j ≢ i → f x ≡ g x)
    → ((x : A) → slice_get xs i ≡ Some x → f x ≡ v) → map f xs ≡ set (map g xs) i v
map_set f g [] i v others here = refl
map_set {B = B} f g (x ∷ xs) zero v others here = ap₂ (λ (y : B) (ys : List B). y ∷ ys) (here x refl)
    (map_same f g xs (λ j y e. others (suc j) y e (λ h. omega (arith, h))))
map_set {B = B} f g (x ∷ xs) (suc i) v others here = ap₂ (λ (y : B) (ys : List B). y ∷ ys)
    (others 0 x refl (λ h. omega (arith, h)))
    (map_set f g xs i v (λ j y e ne. others (suc j) y e (λ h. ne (omega (arith, h)))) here)

module _ (layout : List Zone) (zones : List Saved) (zone : Saved) (s : LiveState) (differ : NamesDiffer layout) where
  abbrev more : List Saved
  more = zones ++ zone ∷ []

  -- a log that was not found, or whose zone is not there
  none_more : found zone.1 ≡ [] → refilled layout more s ≡ refilled layout zones s
  none_more none = ap (λ (zs : List LiveZone). record s { zones = zs })
      (map_same (told more) (told zones) (zip layout s.zones)
      (λ j p e. told_same zones zone p (by (is_zone zone.0.name p.0))))
    where
      by : (b : Bool) → cond b (found zone.1) [] ≡ []
      by true = none
      by false = refl

  nowhere : zone_place layout zone.0.name ≡ None → refilled layout more s ≡ refilled layout zones s
  nowhere place = ap (λ (zs : List LiveZone). record s { zones = zs })
      (map_same (told more) (told zones) (zip layout s.zones)
      (λ j p e. told_same zones zone p (ap (λ (b : Bool). cond b (found zone.1) [])
      (no_name layout zone.0.name j p.0 differ place (slice_get-zip_parts layout s.zones j p e).0))))

  one_more : (r : ZoneReading) (i : ℕ) (z : Zone) (live : LiveZone) → found zone.1 ≡ r ∷ []
      → zone_place layout zone.0.name ≡ Some i → slice_get layout i ≡ Some z → is_zone zone.0.name z ≡ true
      → slice_get (refilled layout zones s).zones i ≡ Some live
      → (refilled layout more s).zones ≡ set (refilled layout zones s).zones i (with_log z live r.log)
  one_more r i z live is place ez name el =
      map_set (told more) (told zones) (zip layout s.zones) i (with_log z live r.log)
      (λ j p e ne. told_same zones zone p (ap (λ (b : Bool). cond b (found zone.1) [])
      (other_name layout zone.0.name i j p.0 differ place (slice_get-zip_parts layout s.zones j p e).0 ne)))
      (λ p e.
      let at = slice_get-zip_parts layout s.zones i p e in
      let same : p.0 ≡ z = (let k : Some p.0 ≡ Some z = sym at.0 ∙ ez in cc) in
      let mine : is_zone zone.0.name p.0 ≡ true = ap (is_zone zone.0.name) same ∙ name in
      let there : told zones p ≡ live = (let k : Some (told zones p) ≡ Some live =
      sym (slice_get-map_some (told zones) (zip layout s.zones) i p e) ∙ el in cc) in
      told_more zones zone p r (ap (λ (b : Bool). cond b (found zone.1) []) mine ∙ is)
      ∙ ap₂ (λ (y : Zone) (l : LiveZone). with_log y l r.log) same there)

-- ---- the machine

none_turns : (o : Option Flight) → (flies_dump o && not (is_some o)) ≡ false
none_turns None = refl
none_turns (Some f) = and-false (flies_dump (Some f))

idle_turns : (o p : Option Flight) (n : ℕ) → (not (is_some o) && (n == 0)) ≡ true
    → (flies_dump o && not (is_some p)) ≡ false
idle_turns None p n e = refl
idle_turns (Some f) p n e = absurd (true≢false (sym e))

log_turns : (z : Zone) (live : LiveZone) (log : List ℕ)
    → (flies_dump live.flight && not (is_some (with_log z live log).flight)) ≡ false
log_turns z live log = by (is_blank live) refl
  where
    by : (b : Bool) → is_blank live ≡ b
        → (flies_dump live.flight && not (is_some (with_log z live log).flight)) ≡ false
    by true e = idle_turns live.flight (with_log z live log).flight (length live.told) e
    by false e = rw e (none_turns live.flight)

one_log : (rs : List ZoneReading) (log : List ℕ) → log ∷ [] ≡ map (λ (r : ZoneReading). r.log) rs
    → (r : ZoneReading) × (rs ≡ r ∷ []) × (r.log ≡ log)
one_log [] log e = cc
one_log (r ∷ []) log e = (r, refl, (let same : r.log ≡ log = cc in same))
one_log (r ∷ q ∷ rs) log e = cc

no_log : (rs : List ZoneReading) → [] ≡ map (λ (r : ZoneReading). r.log) rs → rs ≡ []
no_log [] e = refl
no_log (r ∷ rs) e = cc

pub refills_none : (u : LiveSeen) (zone : Saved) → NamesDiffer u.layout
    → [] ≡ map (λ (r : ZoneReading). r.log) (found zone.1) → RefillsNext zone u u
refills_none u zone differ none layout mem s zones len stands =
    subst (λ (x : LiveState). StandsLive layout mem u x)
    (sym (none_more layout zones zone s (subst NamesDiffer stands.same_layout differ) (no_log (found zone.1) none)))
    stands

pub refills_nowhere : (u : LiveSeen) (zone : Saved) (name : ZoneName) → NamesDiffer u.layout → zone.0.name ≡ name
    → zone_place u.layout name ≡ None → RefillsNext zone u u
refills_nowhere u zone name differ named place layout mem s zones len stands =
    subst (λ (x : LiveState). StandsLive layout mem u x)
    (sym (nowhere layout zones zone s (subst NamesDiffer stands.same_layout differ)
    (ap (λ (n : ZoneName). zone_place layout n) named
    ∙ ap (λ (l : List Zone). zone_place l name) (sym stands.same_layout) ∙ place))) stands

pub refills_next : (u w : LiveSeen) (zone : Saved) (log : List ℕ) (name : ZoneName) (i : ℕ) → NamesDiffer u.layout
    → log ∷ [] ≡ map (λ (r : ZoneReading). r.log) (found zone.1) → zone.0.name ≡ name
    → zone_place u.layout name ≡ Some i → i < length u.layout → ChangesZone (λ z live. with_log z live log) i u w
    → RefillsNext zone u w
refills_next u w zone log name i differ logs named place below changes layout mem s zones len stands =
    let r = one_log (found zone.1) log logs in
    let old : LiveState = refilled layout zones s in
    let below' : i < length layout = subst (λ (l : List Zone). i < length l) stands.same_layout below in
    let z = slice_get-some layout i below' in
    let live = slice_get-some old.zones i (let n = stands.count in omega (arith, below', n)) in
    let there : zone_place layout zone.0.name ≡ Some i = ap (λ (n : ZoneName). zone_place layout n) named
    ∙ ap (λ (l : List Zone). zone_place l name) (sym stands.same_layout) ∙ place in
    let zones_are = one_more layout zones zone s (subst NamesDiffer stands.same_layout differ) r.0 i z.0 live.0 r.1
    there z.1 (name_at layout zone.0.name i z.0 there z.1) live.1 in
    let new : LiveZone = with_log z.0 live.0 log in
    let cursor : (with_zone layout old i live.0 new).cursor ≡ s.cursor =
    ap (λ (b : Bool). cond b ((s.cursor + 1) % dump_zones layout) s.cursor) (log_turns z.0 live.0 log) in
    let same : with_zone layout old i live.0 new ≡ refilled layout (zones ++ zone ∷ []) s =
    ap₂ (λ (zs : List LiveZone) (n : ℕ). record s { zones = zs; cursor = n })
    (ap (λ (l : List ℕ). set old.zones i (with_log z.0 live.0 l)) (sym r.2) ∙ sym zones_are) cursor in
    subst (λ (x : LiveState). StandsLive layout mem w x) same
    (changes layout mem old z.0 live.0 stands z.1 live.1)

-- ---- all logs

seconds : (layout : List Zone) (lives : List LiveZone) → length lives ≡ length layout
    → map (told []) (zip layout lives) ≡ lives
seconds [] [] e = refl
seconds [] (l ∷ ls) e = absurd (omega (arith, e))
seconds (z ∷ zs) [] e = absurd (omega (arith, e))
seconds (z ∷ zs) (l ∷ ls) e = ap (λ (ys : List LiveZone). l ∷ ys) (seconds zs ls (omega (arith, e)))

pub refills_nothing : (u : LiveSeen) → RefillsAll [] u u
refills_nothing u layout mem s stands =
    subst (λ (zs : List LiveZone). StandsLive layout mem u (record s { zones = zs }))
    (sym (seconds layout s.zones stands.count)) stands

pub refills_more : (zones : List Saved) (i : ℕ) (u v w : LiveSeen) → i < length zones
    → RefillsAll (take i zones) u v
    → ((zone : Saved) → slice_get zones i ≡ Some zone → RefillsNext zone v w) → RefillsAll (take (i + 1) zones) u w
refills_more zones i u v w below all next layout mem s stands =
    let at = slice_get-some zones i below in
    let same : get_or zones i at.0 ≡ at.0 = (let g : Some (get_or zones i at.0) ≡ Some at.0 =
    sym (slice_get-get_or zones i at.0 below) ∙ at.1 in cc) in
    let more : take (i + 1) zones ≡ take i zones ++ at.0 ∷ [] =
    take_more zones i at.0 below ∙ ap (λ (x : Saved). take i zones ++ x ∷ []) same in
    subst (λ (zs : List Saved). StandsLive layout mem w (refilled layout zs s)) (sym more)
    (next at.0 at.1 layout mem s (take i zones) stands.count (all layout mem s stands))
