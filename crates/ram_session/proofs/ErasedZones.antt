-- The zones of a record erased, one behind the other, and their logs forgotten
use Rattle.std.proofs.Common.{◌≡◌, ℕ, zero, suc, ◌+◌, ◌<◌, ◌≤◌, Bool, true, false, ◌&&◌, ◌||◌, if◌then◌else◌, is_some}
use Rattle.std.proofs.Common.{List, [], ◌∷◌, map, zip, length, slice_get, slice_set, Option, Some, None, Result, Ok}
use Rattle.std.proofs.Common.{Err, refl, sym, ap, ◌∙◌, arith, ◌⊎◌, inl, inr, OnOk, IfErr}
use Rattle.std.specs.Option.{option_map}
use Rattle.std.proofs.lemmas.Bool.{cases_lt}
use Rattle.std.specs.List.{list_any}
use Rattle.std.proofs.lemmas.Option.{slice_get_within}
use Rattle.zone_spec.specs.declared.Zone.{Zone}
use Rattle.zone_spec.specs.declared.Name.{Name}
use Rattle.zone_spec.specs.declared.ZoneName.{ZoneName}
use Rattle.zone_spec.specs.declared.Refusal.{Refusal}
use Rattle.zone_spec.specs.Layouts.{IsLayout, zone_place}
use Rattle.zone_spec.specs.Told.{Erase as EraseCall}
use Rattle.zone_spec.specs.Notices.{is_in}
use Rattle.zone_spec.specs.Reading.{ZoneReading}
use Rattle.zone_spec.specs.Records.{Saved}
use Rattle.machine_spec.specs.States.{LiveZone, LiveState, Live}
use Rattle.machine_spec.specs.Sound.{IsState}
use Rattle.machine_spec.specs.LiveZones.{Target, target, flies}
use Rattle.machine_spec.specs.ZoneCalls.{begun, finished}
use Rattle.machine_spec.specs.LiveCalls.{make, Erase as EraseAsk}
use Rattle.machine_spec.specs.Erasures.{erase_zone}
use Rattle.machine_spec.specs.Operations.{operated, left_by, Make}
use Rattle.machine_laws.proofs.Operations.{operations_keep_states_sound}
use Rattle.ramoops.specs.LiveSeen.{LiveSeen, StandsLive}
use Rattle.script_laws.proofs.Steps.{erase_made}
use Rattle.ram_session.specs.Answers.{Done, IsRefused}
use Rattle.ram_session.specs.Erasing.{FliesAt, StandsAsState, ErasesAt, Erases}

-- ---- a list changed place by place

-- the first i items of a list changed beside the zones
unfoldable pub changed_to : {A : Type 0} → (Zone × A → A) → ℕ → List Zone → List A → List A
changed_to f zero zones xs = xs
changed_to f (suc i) [] xs = xs
changed_to f (suc i) (z ∷ zones) [] = []
changed_to f (suc i) (z ∷ zones) (x ∷ xs) = f (z, x) ∷ changed_to f i zones xs

pub all_changed : {A : Type 0} (f : Zone × A → A) (i : ℕ) (zones : List Zone) (xs : List A) → length xs ≤ i
    → length xs ≤ length zones → changed_to f i zones xs ≡ map f (zip zones xs)
unfolding changed_to
all_changed f zero [] [] h le = refl
all_changed f zero (z ∷ zones) [] h le = refl
all_changed f zero zones (x ∷ xs) h le = absurd (omega (arith, h))
all_changed f (suc i) [] [] h le = refl
all_changed f (suc i) [] (x ∷ xs) h le = absurd (omega (arith, le))
all_changed f (suc i) (z ∷ zones) [] h le = refl
all_changed f (suc i) (z ∷ zones) (x ∷ xs) h le = ap (λ rest. f (z, x) ∷ rest)
    (all_changed f i zones xs (omega (arith, h)) (omega (arith, le)))

-- what stands behind them is as it was
pub get_next : {A : Type 0} (f : Zone × A → A) (i : ℕ) (zones : List Zone) (xs : List A)
    → slice_get (changed_to f i zones xs) i ≡ slice_get xs i
unfolding changed_to
get_next f zero zones xs = refl
get_next f (suc i) [] xs = refl
get_next f (suc i) (z ∷ zones) [] = refl
get_next f (suc i) (z ∷ zones) (x ∷ xs) = get_next f i zones xs

set_suc : {A : Type 0} (f : Zone × A → A) (i : ℕ) (zones : List Zone) (xs : List A) (z : Zone) (x : A)
    → slice_get zones i ≡ Some z → slice_get xs i ≡ Some x
    → slice_set (changed_to f i zones xs) i (f (z, x)) ≡ changed_to f (suc i) zones xs
unfolding changed_to
set_suc f i [] xs z x e g = absurd (omega (arith, slice_get_within [] i z e))
set_suc f i (y ∷ zones) [] z x e g = absurd (omega (arith, slice_get_within [] i x g))
set_suc f zero (y ∷ zones) (w ∷ xs) z x e g = let a : y ≡ z = cc in let b : w ≡ x = cc in rw (a, b) refl
set_suc f (suc i) (y ∷ zones) (w ∷ xs) z x e g = ap (λ rest. f (y, w) ∷ rest) (set_suc f i zones xs z x e g)

pub set_next : {A : Type 0} (f : Zone × A → A) (i : ℕ) (zones : List Zone) (xs : List A) (z : Zone) (x : A)
    → slice_get zones i ≡ Some z → slice_get xs i ≡ Some x
    → slice_set (changed_to f i zones xs) i (f (z, x)) ≡ changed_to f (i + 1) zones xs
set_next f i zones xs z x e g = let next : i + 1 ≡ suc i = omega arith in rw next (set_suc f i zones xs z x e g)

-- one that stays changes nothing
stay_suc : {A : Type 0} (f : Zone × A → A) (i : ℕ) (zones : List Zone) (xs : List A) (z : Zone) (x : A)
    → slice_get zones i ≡ Some z → slice_get xs i ≡ Some x → f (z, x) ≡ x
    → changed_to f i zones xs ≡ changed_to f (suc i) zones xs
unfolding changed_to
stay_suc f i [] xs z x e g same = absurd (omega (arith, slice_get_within [] i z e))
stay_suc f i (y ∷ zones) [] z x e g same = absurd (omega (arith, slice_get_within [] i x g))
stay_suc f zero (y ∷ zones) (w ∷ xs) z x e g same = let a : y ≡ z = cc in let b : w ≡ x = cc in
    rw (a, b) (ap (λ u. u ∷ xs) (sym same))
stay_suc f (suc i) (y ∷ zones) (w ∷ xs) z x e g same = ap (λ rest. f (y, w) ∷ rest) (stay_suc f i zones xs z x e g same)

pub stay_next : {A : Type 0} (f : Zone × A → A) (i : ℕ) (zones : List Zone) (xs : List A) (z : Zone) (x : A)
    → slice_get zones i ≡ Some z → slice_get xs i ≡ Some x → f (z, x) ≡ x
    → changed_to f i zones xs ≡ changed_to f (i + 1) zones xs
stay_next f i zones xs z x e g same = let next : i + 1 ≡ suc i = omega arith in
    rw next (stay_suc f i zones xs z x e g same)

-- ---- flights in a record's zones

-- whether a flight stands there in a zone of the record
abbrev is_flying : Name → Zone × LiveZone → Bool
is_flying name pair = is_in name pair.0 && is_some pair.1.flight

zip_at : {A B : Type 0} (xs : List A) (ys : List B) (i : ℕ) (a : A) (b : B) → slice_get xs i ≡ Some a
    → slice_get ys i ≡ Some b → slice_get (zip xs ys) i ≡ Some (a, b)
zip_at [] ys i a b e g = absurd (omega (arith, slice_get_within [] i a e))
zip_at (x ∷ xs) [] i a b e g = absurd (omega (arith, slice_get_within [] i b g))
zip_at (x ∷ xs) (y ∷ ys) zero a b e g = let p : x ≡ a = cc in let q : y ≡ b = cc in rw (p, q) refl
zip_at (x ∷ xs) (y ∷ ys) (suc i) a b e g = zip_at xs ys i a b e g

either : (a b : Bool) → (a || b) ≡ false → (a ≡ false) × (b ≡ false)
either true b h = absurd (cc)
either false b h = (refl, h)

-- where none flies, none does at a place
pub none_at : {X : Type 0} (test : X → Bool) (xs : List X) (i : ℕ) (x : X) → list_any test xs ≡ false
    → slice_get xs i ≡ Some x → test x ≡ false
none_at test [] i x h e = absurd (omega (arith, slice_get_within [] i x e))
none_at test (y ∷ ys) zero x h e = let same : y ≡ x = cc in rw same at (either (test y) (list_any test ys) h).0
none_at test (y ∷ ys) (suc i) x h e = none_at test ys i x (either (test y) (list_any test ys) h).1 e

pub some_at : {X : Type 0} (test : X → Bool) (xs : List X) (i : ℕ) (x : X) → slice_get xs i ≡ Some x → test x ≡ true
    → list_any test xs ≡ true
some_at test [] i x e t = absurd (omega (arith, slice_get_within [] i x e))
some_at test (y ∷ ys) zero x e t = let same : y ≡ x = cc in ap (λ (b : Bool). b || list_any test ys) (ap test same ∙ t)
some_at test (y ∷ ys) (suc i) x e t = by (test y) (some_at test ys i x e t)
  where
    by : (b : Bool) → list_any test ys ≡ true → (b || list_any test ys) ≡ true
    by true h = refl
    by false h = h

all_none : {X : Type 0} (test : X → Bool) (xs : List X) → ((i : ℕ) (x : X) → slice_get xs i ≡ Some x → test x ≡ false)
    → list_any test xs ≡ false
all_none test [] h = refl
all_none test (y ∷ ys) h = ap (λ (b : Bool). b || list_any test ys) (h 0 y refl)
    ∙ all_none test ys (λ i x e. h (suc i) x e)

there : {X : Type 0} (xs : List X) (i : ℕ) → i < length xs → (x : X) × (slice_get xs i ≡ Some x)
there [] i h = absurd (omega (arith, h))
there (x ∷ xs) zero h = (x, refl)
there (x ∷ xs) (suc i) h = there xs i (omega (arith, h))

zip_get : {A B : Type 0} (xs : List A) (ys : List B) (i : ℕ) (p : A × B) → slice_get (zip xs ys) i ≡ Some p
    → (slice_get xs i ≡ Some p.0) × (slice_get ys i ≡ Some p.1)
zip_get [] ys i p e = absurd (omega (arith, slice_get_within [] i p e))
zip_get (x ∷ xs) [] i p e = absurd (omega (arith, slice_get_within [] i p e))
zip_get {A} {B} (x ∷ xs) (y ∷ ys) zero p e = let same : ◌≡◌ {A = A × B} (x, y) p = cc in
    (ap (λ (q : A × B). Some q.0) same, ap (λ (q : A × B). Some q.1) same)
zip_get (x ∷ xs) (y ∷ ys) (suc i) p e = zip_get xs ys i p e

-- no flight stands in the record's zones among the first i
pub record NoneFlies (v : LiveSeen) (name : Name) (i : ℕ) : Type 0 where
  pub none : (layout : List Zone) (mem : ℕ) (s : LiveState) (k : ℕ) (z : Zone) (l : LiveZone)
      → StandsLive layout mem v s → k < i → slice_get layout k ≡ Some z → slice_get s.zones k ≡ Some l
      → (is_in name z && is_some l.flight) ≡ false

pub none_yet : (v : LiveSeen) (name : Name) → NoneFlies v name 0
none_yet v name = record { none = λ layout mem s k z l stands below at lives. absurd (omega (arith, below)) }

pub none_next : (v : LiveSeen) (name : Name) (i : ℕ) (b : Bool) → b ≡ false → FliesAt i name v b → NoneFlies v name i
    → NoneFlies v name (i + 1)
none_next v name i b is_false at so_far = record {
  none = λ layout mem s k z l stands below on lives. by layout mem s
      k z l stands on lives (cases_lt k i) below;
}
  where
    by : (layout : List Zone) (mem : ℕ) (s : LiveState) (k : ℕ) (z : Zone) (l : LiveZone) → StandsLive layout mem v s
        → slice_get layout k ≡ Some z → slice_get s.zones k ≡ Some l → (k < i) ⊎ (i ≤ k) → k < i + 1
        → (is_in name z && is_some l.flight) ≡ false
    by layout mem s k z l stands on lives (inl j) below = so_far.none layout mem s k z l stands j on lives
    by layout mem s k z l stands on lives (inr j) below =
        let same : k ≡ i = omega (arith, j, below) in
        sym (at layout mem s z l stands (rw same at on) (rw same at lives)) ∙ is_false

pub flies_there : (v : LiveSeen) (name : Name) (i : ℕ) (b : Bool) → b ≡ true → i < length v.layout
    → FliesAt i name v b → (layout : List Zone) (mem : ℕ) (s : LiveState) → StandsLive layout mem v s
    → true ≡ flies layout s (λ z. is_in name z)
flies_there v name i b is_true below at layout mem s stands =
    let z = there layout i (omega (arith, below, ap (length {A = Zone}) stands.same_layout)) in
    let l = there s.zones i (omega (arith, stands.count, slice_get_within layout i z.0 z.1)) in
    sym (some_at (is_flying name) (zip layout s.zones) i (z.0, l.0) (zip_at layout s.zones i z.0 l.0 z.1 l.1)
    (sym (at layout mem s z.0 l.0 stands z.1 l.1) ∙ is_true))

pub none_flies : (v : LiveSeen) (name : Name) (i : ℕ) → length v.layout ≤ i → NoneFlies v name i
    → (layout : List Zone) (mem : ℕ) (s : LiveState) → StandsLive layout mem v s
    → false ≡ flies layout s (λ z. is_in name z)
none_flies v name i all h layout mem s stands = sym (all_none (is_flying name) (zip layout s.zones)
    (λ k pair e. by k pair (zip_get layout s.zones k pair e)))
  where
    by : (k : ℕ) (pair : Zone × LiveZone) → (slice_get layout k ≡ Some pair.0) × (slice_get s.zones k ≡ Some pair.1)
        → is_flying name pair ≡ false
    by k pair at = h.none layout mem s k pair.0 pair.1 stands
        (omega (arith, all, ap (length {A = Zone}) stands.same_layout, slice_get_within layout k pair.0 at.0)) at.0 at.1

-- ---- the i-th zone

outside : (v : LiveSeen) (layout : List Zone) (i : ℕ) (z : Zone) → v.layout ≡ layout
    → None ≡ option_map (λ (z : Zone). z.name) (slice_get v.layout i) → slice_get layout i ≡ Some z → ⊥
outside v layout i z same none at =
    let here : slice_get v.layout i ≡ Some z = rw (← same) at at in
    let clash : None ≡ Some z.name = none ∙ ap (option_map (λ (z : Zone). z.name)) here in
    cc

pub none_there : (v : LiveSeen) (i : ℕ) (name : Name) → None
    ≡ option_map (λ (z : Zone). z.name) (slice_get v.layout i) → FliesAt i name v false
none_there v i name none layout mem s z l stands at lives = absurd (outside v layout i z stands.same_layout none at)

pub nowhere : (v : LiveSeen) (i : ℕ) (name : Name) → None ≡ option_map (λ (z : Zone). z.name) (slice_get v.layout i)
    → ErasesAt i name v v
nowhere v i name none layout mem s z l lies stands state at lives idle =
    absurd (outside v layout i z stands.same_layout none at)

set_read : (zones : List LiveZone) (i : ℕ) (v : LiveZone) → slice_get zones i ≡ Some v → slice_set zones i v ≡ zones
set_read [] i v e = refl
set_read (w ∷ ws) zero v e = let same : w ≡ v = cc in rw same refl
set_read (w ∷ ws) (suc i) v e = ap (λ (rest : List LiveZone). w ∷ rest) (set_read ws i v e)

-- the zone at that place has the name
named_there : (v : LiveSeen) (layout : List Zone) (i : ℕ) (z : Zone) (zone : ZoneName) → v.layout ≡ layout
    → Some zone ≡ option_map (λ (z : Zone). z.name) (slice_get v.layout i) → slice_get layout i ≡ Some z → z.name ≡ zone
named_there v layout i z zone same named at =
    let here : slice_get v.layout i ≡ Some z = rw (← same) at at in
    let both : Some zone ≡ Some z.name = named ∙ ap (option_map (λ (z : Zone). z.name)) here in
    cc

module _ (v : LiveSeen) (i : ℕ) (name : Name) (zone : ZoneName) (b : Bool)
    (named : Some zone ≡ option_map (λ (z : Zone). z.name) (slice_get v.layout i))
    (belongs : (z : Zone) → z.name ≡ zone → b ≡ is_in name z) where
  pub not_flying : b ≡ false → FliesAt i name v false
  not_flying is_false layout mem s z l stands at lives =
      let out : is_in name z ≡ false = sym (belongs z (named_there v layout i z zone stands.same_layout named at))
      ∙ is_false in
      sym (ap (λ (b : Bool). b && is_some l.flight) out)

  pub elsewhere : b ≡ false → ErasesAt i name v v
  elsewhere is_false layout mem s z l lies stands state at lives idle =
      let out : is_in name z ≡ false = sym (belongs z (named_there v layout i z zone stands.same_layout named at))
      ∙ is_false in
      let same : erase_zone name z l ≡ l = rw out refl in
      let stay : record s { zones = slice_set s.zones i (erase_zone name z l) } ≡ s =
      rw (same, set_read s.zones i l lives) refl in
      rw stay (record { stands = stands; state = state })

  module _ (first : zone_place v.layout zone ≡ Some i) (is_true : b ≡ true) where
    -- the target of the zone's name is that zone
    target_there : (layout : List Zone) (mem : ℕ) (s : LiveState) (z : Zone) (l : LiveZone)
        → StandsLive layout mem v s → slice_get layout i ≡ Some z → slice_get s.zones i ≡ Some l
        → target layout s zone ≡ Some (record { place = i; zone = z; live = l })
    target_there layout mem s z l stands at lives =
        let place : zone_place layout zone ≡ Some i = rw stands.same_layout at first in
        rw (place, at, lives) refl

    pub flying_told : (f : Bool) → ((layout : List Zone) (mem : ℕ) (s : LiveState) → StandsLive layout mem v s
        → option_map (λ (t : Target). is_some t.live.flight) (target layout s zone) ≡ Some f) → FliesAt i name v f
    flying_told f told layout mem s z l stands at lives =
        let inside : is_in name z ≡ true = sym (belongs z (named_there v layout i z zone stands.same_layout named at))
        ∙ is_true in
        let both : Some (is_some l.flight) ≡ Some f = sym (ap (option_map (λ (t : Target). is_some t.live.flight))
        (target_there layout mem s z l stands at lives)) ∙ told layout mem s stands in
        let same : is_some l.flight ≡ f = cc in
        sym (ap (λ (b : Bool). b && is_some l.flight) inside ∙ same)

    pub flying_nowhere : (f : Bool) → zone_place v.layout zone ≡ None → FliesAt i name v f
    flying_nowhere f none layout mem s z l stands at lives = let clash : None ≡ Some i = sym none ∙ first in absurd (cc)

    makes : (layout : List Zone) (mem : ℕ) (s : LiveState) (z : Zone) (l : LiveZone) → StandsLive layout mem v s
        → slice_get layout i ≡ Some z → slice_get s.zones i ≡ Some l → is_flying name (z, l) ≡ false
        → make layout s (EraseAsk zone) ≡ Ok (record s { zones = slice_set s.zones i (erase_zone name z l) })
    makes layout mem s z l stands at lives idle =
        let its : z.name ≡ zone = named_there v layout i z zone stands.same_layout named at in
        let inside : is_in name z ≡ true = sym (belongs z its) ∙ is_true in
        let still : is_some l.flight ≡ false = rw inside at idle in
        let place : zone_place layout z.name ≡ Some i = rw its (rw stands.same_layout at first) in
        let erased : erase_zone name z l ≡ finished z (begun z EraseCall l) = rw inside refl in
        rw (erased, ← its) (erase_made layout s i z l place at lives (no_flight l.flight still))
      where
        no_flight : {A : Type 0} (o : Option A) → is_some o ≡ false → o ≡ None
        no_flight None h = refl
        no_flight (Some f) h = absurd (cc)

    pub erased_there : (w : LiveSeen) → Done v w (λ layout s. make layout s (EraseAsk zone)) → ErasesAt i name v w
    erased_there w done layout mem s z l lies stands state at lives idle =
        let d = done layout mem s lies stands state in
        let m = makes layout mem s z l stands at lives idle in
        let next : d.next ≡ record s { zones = slice_set s.zones i (erase_zone name z l) } =
        (let both : Ok d.next ≡ Ok (record s { zones = slice_set s.zones i (erase_zone name z l) }) = sym d.done
        ∙ m in cc) in
        let sound : left_by (Live s) (operated layout (Live s) (Make (EraseAsk zone))) ≡ Live d.next = rw d.done refl in
        rw (← next) (record {
          stands = d.stands;
          state = rw sound at
              (operations_keep_states_sound layout mem (Live s) (Make (EraseAsk zone)) lies state tt);
        })

    pub refused_there : (w : LiveSeen) (why : Refusal) → IsRefused v why (λ layout s. make layout s (EraseAsk zone))
        → ErasesAt i name v w
    refused_there w why refused layout mem s z l lies stands state at lives idle =
        let clash : ◌≡◌ {A = Result LiveState Refusal} (Err why)
        (Ok (record s { zones = slice_set s.zones i (erase_zone name z l) })) =
        sym (refused layout mem s lies stands state) ∙ makes layout mem s z l stands at lives idle in
        absurd (cc)

    pub answered_there : (w : LiveSeen) (r : Result (Unit {0}) Refusal)
        → OnOk r (Done v w (λ layout s. make layout s (EraseAsk zone)))
        → IfErr r (λ why. IsRefused v why (λ layout s. make layout s (EraseAsk zone))) → ErasesAt i name v w
    answered_there w (Ok u) made refused = erased_there w made
    answered_there w (Err why) made refused = refused_there w why refused

-- ---- all of them

-- the change of one zone
abbrev pub erasing : Name → Zone × LiveZone → LiveZone
erasing name pair = erase_zone name pair.0 pair.1

-- the first i zones were looked at
abbrev pub ErasesTo : Name → ℕ → LiveSeen → LiveSeen → Type 0
ErasesTo name i old now = (layout : List Zone) (mem : ℕ) (s : LiveState) → IsLayout layout mem
    → StandsLive layout mem old s → IsState layout mem (Live s) → flies layout s (λ z. is_in name z) ≡ false
    → StandsAsState layout mem now (record s { zones = changed_to (erasing name) i layout s.zones })

pub erases_none : (v : LiveSeen) (name : Name) → ErasesTo name 0 v v
unfolding changed_to
erases_none v name layout mem s lies stands state idle = record { stands = stands; state = state }

pub erases_next : (old now next : LiveSeen) (name : Name) (i : ℕ) → i < length old.layout → ErasesTo name i old now
    → ErasesAt i name now next → ErasesTo name (i + 1) old next
erases_next old now next name i below so_far one layout mem s lies stands state idle =
    let a = so_far layout mem s lies stands state idle in
    let z = there layout i (omega (arith, below, ap (length {A = Zone}) stands.same_layout)) in
    let l = there s.zones i (omega (arith, stands.count, slice_get_within layout i z.0 z.1)) in
    let lives : slice_get (changed_to (erasing name) i layout s.zones) i ≡ Some l.0 =
    get_next (erasing name) i layout s.zones ∙ l.1 in
    let still = none_at (is_flying name) (zip layout s.zones) i (z.0, l.0) idle
    (zip_at layout s.zones i z.0 l.0 z.1 l.1) in
    let b = one layout mem (record s { zones = changed_to (erasing name) i layout s.zones })
    z.0 l.0 lies a.stands a.state z.1 lives still in
    rw (set_next (erasing name) i layout s.zones z.0 l.0 z.1 l.1) at b

pub erases_all : (old now : LiveSeen) (name : Name) (i : ℕ) → length old.layout ≤ i → ErasesTo name i old now
    → Erases name old now
erases_all old now name i all h layout mem s lies stands state idle =
    let a = h layout mem s lies stands state idle in
    rw (all_changed (erasing name) i layout s.zones (omega
    (arith, all, stands.count, ap (length {A = Zone}) stands.same_layout)) (omega (arith, stands.count)))
    at a.stands

-- ---- logs forgotten

-- what is left of a reading
abbrev pub forgetting : Name → Saved → Option ZoneReading
forgetting name pair = if is_in name pair.0 then None else pair.1
