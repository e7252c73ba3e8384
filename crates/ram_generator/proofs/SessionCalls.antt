-- Calls of a session as the machine makes them: what they leave, how many stores they have, and where they stand. The
-- calls of `calls.rt` cite them.
use Rattle.std.proofs.Common.{◌≡◌, ℕ, min, Bool, true, cond, not, if◌then◌else◌, is_some, is_none, nat_lt, List, ◌++◌}
use Rattle.std.proofs.Common.{◌∷◌, [], filter, take, get_or, length, Option, Some, None, refl, sym, ap, ◌∙◌, ◌<◌, ◌+◌}
use Rattle.std.proofs.lemmas.List.Elements.{filter_more}
use Rattle.std.specs.Option.{option_map}
use Rattle.zone_spec.specs.declared.Zone.{Zone}
use Rattle.zone_spec.specs.declared.ZoneName.{ZoneName}
use Rattle.zone_spec.specs.declared.Refusal.{Refusal}
use Rattle.zone_spec.specs.declared.Refusal.TheVariants.{NoZone}
use Rattle.zone_spec.specs.Layouts.{IsLayout, zone_place}
use Rattle.machine_spec.specs.States.{Flight, LiveState, Live}
use Rattle.machine_spec.specs.ZoneCalls.{stores_left}
use Rattle.machine_spec.specs.LiveZones.{Target, target}
use Rattle.machine_spec.specs.LiveCalls.{Ask, Append, asked_name, make, step}
use Rattle.machine_spec.specs.Operations.{Operation, Begin, Make, Step}
use Rattle.machine_spec.specs.Sound.{IsState, IsAsk, IsOperation}
use Rattle.machine_laws.proofs.Operations.{operations_keep_states_sound}
use Rattle.ramoops.specs.LiveSeen.{LiveSeen, StandsLive}
use Rattle.script_spec.specs.Generated.{Generated, after, left_in, stores_begun, stores_of, rests, with_call, with_cut}
use Rattle.ram_generator.specs.declared.counts.Counts.{Counts}
use Rattle.ram_generator.specs.Counting.{calls_added}
use Rattle.ram_generator.specs.Sessions.{IsCalled, IsLeft, Runs}
use Rattle.ram_session.specs.Answers.{Done, IsRefused, Begun, NotBegun}
use Rattle.ram_session.proofs.Steps.{Flies, IsLeft as IsLeftNow}

sound_after : (layout : List Zone) (mem : ℕ) (s next : LiveState) (o : Operation) → IsLayout layout mem
    → IsState layout mem (Live s) → IsOperation o → after layout (Live s) o ≡ Live next → IsState layout mem (Live next)
sound_after layout mem s next o lies state fit e = rw e at
    (operations_keep_states_sound layout mem (Live s) o lies state fit)

-- ---- by what the machine tells

-- how many stores are left, in every state for which the machine stands
abbrev pub IsLeftOf : LiveSeen → ZoneName → ℕ → Type 0
IsLeftOf v name n = (layout : List Zone) (mem : ℕ) (s : LiveState) → StandsLive layout mem v s
    → n ≡ left_in (target layout s name)

pub left_there : (v : LiveSeen) (name : ZoneName) (n : ℕ) → IsLeftNow v name n → IsLeftOf v name n
left_there v name n left layout mem s stands = by (target layout s name) (left layout mem s stands)
  where
    by : (o : Option Target) → option_map (λ (t : Target). stores_left t.live.flight t.zone) o ≡ Some n → n ≡ left_in o
    by None e = absurd (cc)
    by (Some t) e = cc

nowhere : (v : LiveSeen) (name : ZoneName) (layout : List Zone) (mem : ℕ) (s : LiveState) → StandsLive layout mem v s
    → zone_place v.layout name ≡ None → target layout s name ≡ None
nowhere v name layout mem s stands h =
    let none : zone_place layout name ≡ None = rw stands.same_layout at h in
    rw none refl

pub left_nowhere : (v : LiveSeen) (name : ZoneName) (why : Refusal)
    → (why ≡ NoZone) × (zone_place v.layout name ≡ None) → IsLeftOf v name 0
left_nowhere v name why h layout mem s stands = sym (ap left_in (nowhere v name layout mem s stands h.1))

begun_stores : (v b : LiveSeen) (ask : Ask) (name : ZoneName) (n : ℕ) → Begun v b ask name → IsLeftOf b name n
    → (layout : List Zone) (mem : ℕ) (s : LiveState) → StandsLive layout mem v s → n ≡ stores_of layout (Live s) ask
begun_stores v b ask name n begun left layout mem s stands =
    let g = begun layout mem s stands in
    left layout mem g.1.next g.1.stands ∙ (ap (λ (m : ZoneName). left_in (target layout g.1.next m)) g.0
    ∙ sym (ap (stores_begun layout (asked_name s ask)) g.1.done))

pub made_call : (v b w : LiveSeen) (ask : Ask) (name : ZoneName) (n : ℕ) → IsAsk ask → Begun v b ask name
    → IsLeftOf b name n → Done v w (λ layout s. make layout s ask)
    → (layout : List Zone) (mem : ℕ) (s : LiveState) → IsLayout layout mem → StandsLive layout mem v s
    → IsState layout mem (Live s) → IsCalled layout mem s (Make ask) ask w n
made_call v b w ask name n fit begun left done layout mem s lies stands state =
    let d = done layout mem s lies stands state in
    let next : after layout (Live s) (Make ask) ≡ Live d.next = rw d.done refl in
    record {
      next = d.next;
      done = next;
      stands = d.stands;
      sound = sound_after layout mem s d.next (Make ask) lies state fit next;
      count = begun_stores v b ask name n begun left layout mem s stands;
    }

pub refused_call : (v w : LiveSeen) (ask : Ask) (why : Refusal) → w ≡ v → NotBegun v ask why
    → (layout : List Zone) (mem : ℕ) (s : LiveState) → IsLayout layout mem → StandsLive layout mem v s
    → IsState layout mem (Live s) → IsCalled layout mem s (Make ask) ask w 0
refused_call v w ask why same refused layout mem s lies stands state =
    let h = refused layout mem s stands in
    record { next = s; done = rw h refl; stands = rw same stands; sound = state; count = rw h refl }

pub begun_call : (v b : LiveSeen) (ask : Ask) (name : ZoneName) (n : ℕ) → IsAsk ask → Begun v b ask name
    → IsLeftOf b name n → (layout : List Zone) (mem : ℕ) (s : LiveState) → IsLayout layout mem
    → StandsLive layout mem v s → IsState layout mem (Live s) → IsCalled layout mem s (Begin ask) ask b n
begun_call v b ask name n fit begun left layout mem s lies stands state =
    let g = begun layout mem s stands in
    let next : after layout (Live s) (Begin ask) ≡ Live g.1.next = rw g.1.done refl in
    record {
      next = g.1.next;
      done = next;
      stands = g.1.stands;
      sound = sound_after layout mem s g.1.next (Begin ask) lies state fit next;
      count = begun_stores v b ask name n begun left layout mem s stands;
    }

pub unbegun_call : (v w : LiveSeen) (ask : Ask) (why : Refusal) → w ≡ v → NotBegun v ask why
    → (layout : List Zone) (mem : ℕ) (s : LiveState) → IsLayout layout mem → StandsLive layout mem v s
    → IsState layout mem (Live s) → IsCalled layout mem s (Begin ask) ask w 0
unbegun_call v w ask why same refused layout mem s lies stands state =
    let h = refused layout mem s stands in
    record { next = s; done = rw h refl; stands = rw same stands; sound = state; count = rw h refl }

pub stepped_on : (v w : LiveSeen) (name : ZoneName) (k : ℕ) → Done v w (λ layout s. step layout s name k)
    → (layout : List Zone) (mem : ℕ) (s : LiveState) → IsLayout layout mem → StandsLive layout mem v s
    → IsState layout mem (Live s) → IsLeft layout mem s (Step name k) w
stepped_on v w name k done layout mem s lies stands state =
    let d = done layout mem s lies stands state in
    let next : after layout (Live s) (Step name k) ≡ Live d.next = rw d.done refl in
    record {
      next = d.next;
      done = next;
      stands = d.stands;
      sound = sound_after layout mem s d.next (Step name k) lies state tt next;
    }

pub not_stepped : (v w : LiveSeen) (name : ZoneName) (k : ℕ) (why : Refusal) → w ≡ v
    → IsRefused v why (λ layout s. step layout s name k)
    → (layout : List Zone) (mem : ℕ) (s : LiveState) → IsLayout layout mem → StandsLive layout mem v s
    → IsState layout mem (Live s) → IsLeft layout mem s (Step name k) w
not_stepped v w name k why same refused layout mem s lies stands state =
    let h = refused layout mem s lies stands state in
    record { next = s; done = rw h refl; stands = rw same stands; sound = state }

-- ---- counted

pub call_counted : (layout : List Zone) (mem : ℕ) (v w : LiveSeen) (c new : Counts) (g : Generated) (ask : Ask)
    (n : ℕ) (r : Runs layout mem v c g) → IsCalled layout mem r.now (Make ask) ask w n → new ≡ calls_added c 1 n
    → Runs layout mem w new (with_call layout g ask)
call_counted layout mem v w c new g ask n r m same = record {
  now = m.next;
  is = ap (λ (h : Generated). with_call layout h ask) r.is ∙ rw (same, m.done, m.count) refl;
  stands = m.stands;
  sound = m.sound;
}

pub cut_counted : (layout : List Zone) (mem : ℕ) (v b w : LiveSeen) (c new : Counts) (g : Generated) (ring : ZoneName)
    (bytes : List ℕ) (count n : ℕ) (r : Runs layout mem v c g)
    → (m : IsCalled layout mem r.now (Begin (Append ring bytes)) (Append ring bytes) b n)
    → IsLeft layout mem m.next (Step ring count) w → new ≡ calls_added c (if nat_lt count n then 0 else 1) (min count n)
    → Runs layout mem w new (with_cut layout g (record { ring = ring; bytes = bytes; stores = count }))
cut_counted layout mem v b w c new g ring bytes count n r m l same = record {
  now = l.next;
  is = ap (λ (h : Generated). with_cut layout h (record { ring = ring; bytes = bytes; stores = count })) r.is
      ∙ rw (same, m.done, l.done, m.count) refl;
  stands = l.stands;
  sound = l.sound;
}

-- ---- zones where no call stands

none_flies : (o : Option Flight) (b : Bool) → is_some o ≡ b → not b ≡ is_none o
none_flies None b e = rw (sym e) refl
none_flies (Some f) b e = rw (sym e) refl

-- whether none stands, in every state for which the machine stands
abbrev pub Rests : LiveSeen → ZoneName → Bool → Type 0
Rests v name b = (layout : List Zone) (mem : ℕ) (s : LiveState) → StandsLive layout mem v s
    → b ≡ rests (target layout s name)

pub rests_there : (v : LiveSeen) (name : ZoneName) (b : Bool) → Flies v name b → Rests v name (not b)
rests_there v name b flies layout mem s stands = by (target layout s name) (flies layout mem s stands)
  where
    by : (o : Option Target) → option_map (λ (t : Target). is_some t.live.flight) o ≡ Some b → not b ≡ rests o
    by None e = absurd (cc)
    by (Some t) e = none_flies t.live.flight b (let same : is_some t.live.flight ≡ b = cc in same)

pub rests_nowhere : (v : LiveSeen) (name : ZoneName) (why : Refusal)
    → (why ≡ NoZone) × (zone_place v.layout name ≡ None) → Rests v name true
rests_nowhere v name why h layout mem s stands = sym (ap rests (nowhere v name layout mem s stands h.1))

-- some zones are those where none stands, in every state for which the machine stands
abbrev pub AreResting : LiveSeen → List Zone → List Zone → Type 0
AreResting v zones rest = (layout : List Zone) (mem : ℕ) (s : LiveState) → StandsLive layout mem v s
    → rest ≡ filter (λ (z : Zone). rests (target layout s z.name)) zones

pub resting_more : (v : LiveSeen) (zones rest now : List Zone) (i : ℕ) (d z : Zone) (b : Bool) → i < length zones
    → z ≡ get_or zones i d → Rests v z.name b → now ≡ rest ++ cond b (z ∷ []) [] → AreResting v (take i zones) rest
    → AreResting v (take (i + 1) zones) now
resting_more v zones rest now i d z b lt at here same so_far layout mem s stands =
    let more = filter_more (λ (y : Zone). rests (target layout s y.name)) zones i d lt in
    let told : rests (target layout s z.name) ≡ b = sym (here layout mem s stands) in
    rw (more, sym at, told, sym (so_far layout mem s stands)) same
