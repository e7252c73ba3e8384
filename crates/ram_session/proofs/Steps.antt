-- Steps of the machine in a row
use Rattle.std.proofs.Common.{◌≡◌, ℕ, ◌+◌, ◌-◌, ◌≤◌, Bool, true, false, is_some, List, Option, Some, None, Ok, Err}
use Rattle.std.proofs.Common.{refl, ap, ◌∙◌, arith}
use Rattle.std.specs.Option.{option_map}
use Rattle.zone_spec.specs.declared.Zone.{Zone}
use Rattle.zone_spec.specs.declared.ZoneName.{ZoneName}
use Rattle.zone_spec.specs.declared.Refusal.{Refusal}
use Rattle.zone_spec.specs.declared.Refusal.TheVariants.{Idle, NoZone}
use Rattle.zone_spec.specs.Layouts.{zone_place}
use Rattle.machine_spec.specs.States.{Flight, LiveState, Live}
use Rattle.machine_spec.specs.Sound.{IsState}
use Rattle.machine_spec.specs.LiveZones.{Target, target}
use Rattle.machine_spec.specs.LiveCalls.{step, finish}
use Rattle.machine_spec.specs.ZoneCalls.{stores_left}
use Rattle.ramoops.specs.LiveSeen.{LiveSeen, StandsLive, Leaves}
use Rattle.ramoops.proofs.StepStates.{step_nowhere}
use Rattle.script_laws.proofs.Steps.{steps_add_up, steps_end, no_steps_leave_state, finish_is_steps}
use Rattle.ram_session.specs.Answers.{Done, IsRefused}

-- what is said of a flight in the zone of this name, in every state for which the machine stands
abbrev pub Flies : LiveSeen → ZoneName → Bool → Type 0
Flies v name b = (layout : List Zone) (mem : ℕ) (s : LiveState) → StandsLive layout mem v s
    → option_map (λ (t : Target). is_some t.live.flight) (target layout s name) ≡ Some b

flying : (layout : List Zone) (mem : ℕ) (s : LiveState) (name : ZoneName) (o : Option Target)
    → target layout s name ≡ o → option_map (λ (t : Target). is_some t.live.flight) o ≡ Some true
    → IsState layout mem (Live s) → step layout s name 0 ≡ Ok s
flying layout mem s name None e h state = absurd (cc)
flying layout mem s name (Some t) e h state = in_flight t.live.flight refl
    (let b : is_some t.live.flight ≡ true = cc in b)
  where
    in_flight : (g : Option Flight) → t.live.flight ≡ g → is_some t.live.flight ≡ true → step layout s name 0 ≡ Ok s
    in_flight None k b = let clash : false ≡ true = rw k at b in absurd (cc)
    in_flight (Some f) k b = no_steps_leave_state layout mem s name t f state e k

-- no step yet
pub none_made : (v : LiveSeen) (name : ZoneName) → Flies v name true → Done v v (λ layout s. step layout s name 0)
none_made v name flies layout mem s lies stands state =
    record {
      next = s;
      done = flying layout mem s name (target layout s name) refl (flies layout mem s stands) state;
      stands = stands;
    }

idle : (layout : List Zone) (s : LiveState) (name : ZoneName) (k : ℕ) (o : Option Target) → target layout s name ≡ o
    → option_map (λ (t : Target). is_some t.live.flight) o ≡ Some false → step layout s name k ≡ Err Idle
idle layout s name k None e h = absurd (cc)
idle layout s name k (Some t) e h = let b : is_some t.live.flight ≡ false = cc in rw (e, b) refl

-- no flight stands there
pub idle_refused : (v : LiveSeen) (name : ZoneName) (k : ℕ) → Flies v name false
    → IsRefused v Idle (λ layout s. step layout s name k)
idle_refused v name k flies layout mem s lies stands state =
    idle layout s name k (target layout s name) refl (flies layout mem s stands)

-- there is no such zone
pub nowhere_refused : (v : LiveSeen) (name : ZoneName) (k : ℕ) (why : Refusal)
    → (why ≡ NoZone) × (zone_place v.layout name ≡ None) → IsRefused v why (λ layout s. step layout s name k)
nowhere_refused v name k why h layout mem s lies stands state = rw h.0 (step_nowhere v name k h.1 layout mem s stands)

-- one step more
pub one_more : (v now next : LiveSeen) (name : ZoneName) (k : ℕ) → Done v now (λ layout s. step layout s name k)
    → ((layout : List Zone) (mem : ℕ) (s : LiveState) → StandsLive layout mem now s
    → Leaves layout mem (step layout s name 1) next) → Done v next (λ layout s. step layout s name (k + 1))
one_more v now next name k so_far one layout mem s lies stands state =
    let a = so_far layout mem s lies stands state in
    let b = one layout mem a.next a.stands in
    record { next = b.next; done = steps_add_up layout s a.next b.next name k a.done b.done; stands = b.stands }

-- no further step can be made
pub all_made : (v now next : LiveSeen) (name : ZoneName) (k count : ℕ) (why : Refusal) → next ≡ now → k ≤ count
    → Done v now (λ layout s. step layout s name k) → ((layout : List Zone) (mem : ℕ) (s : LiveState)
    → StandsLive layout mem now s → step layout s name 1 ≡ Err why) → Done v next (λ layout s. step layout s name count)
all_made v now next name k count why same le so_far ended layout mem s lies stands state =
    let a = so_far layout mem s lies stands state in
    let sum : k + (count - k) ≡ count = omega arith in
    let all : step layout s name (k + (count - k)) ≡ Ok a.next =
    steps_end layout s a.next name k (count - k) why a.done (ended layout mem a.next a.stands) in
    record { next = a.next; done = rw sum at all; stands = rw same a.stands }

-- ---- all stores

-- how many stores are left, in every state for which the machine stands
abbrev pub IsLeft : LiveSeen → ZoneName → ℕ → Type 0
IsLeft v name n = (layout : List Zone) (mem : ℕ) (s : LiveState) → StandsLive layout mem v s
    → option_map (λ (t : Target). stores_left t.live.flight t.zone) (target layout s name) ≡ Some n

finish_by : (layout : List Zone) (s : LiveState) (name : ZoneName) (n : ℕ) (o : Option Target)
    → target layout s name ≡ o → option_map (λ (t : Target). stores_left t.live.flight t.zone) o ≡ Some n
    → finish layout s name ≡ step layout s name n
finish_by layout s name n None e h = absurd (cc)
finish_by layout s name n (Some t) e h =
    let left : stores_left t.live.flight t.zone ≡ n = cc in
    finish_is_steps layout s name t e ∙ ap (λ (k : ℕ). step layout s name k) left

pub finish_done : (v w : LiveSeen) (name : ZoneName) (n : ℕ) → IsLeft v name n
    → Done v w (λ layout s. step layout s name n) → Done v w (λ layout s. finish layout s name)
finish_done v w name n left done layout mem s lies stands state =
    rw (finish_by layout s name n (target layout s name) refl (left layout mem s stands))
    (done layout mem s lies stands state)

pub finish_refused : (v : LiveSeen) (name : ZoneName) (n : ℕ) (why : Refusal) → IsLeft v name n
    → IsRefused v why (λ layout s. step layout s name n) → IsRefused v why (λ layout s. finish layout s name)
finish_refused v name n why left refused layout mem s lies stands state =
    finish_by layout s name n (target layout s name) refl (left layout mem s stands)
    ∙ refused layout mem s lies stands state

nowhere_goes : (layout : List Zone) (s : LiveState) (name : ZoneName) → zone_place layout name ≡ None
    → finish layout s name ≡ Err NoZone
nowhere_goes layout s name h = rw h refl

pub finish_nowhere : (v : LiveSeen) (name : ZoneName) (why : Refusal)
    → (why ≡ NoZone) × (zone_place v.layout name ≡ None) → IsRefused v why (λ layout s. finish layout s name)
finish_nowhere v name why h layout mem s lies stands state =
    rw h.0 (nowhere_goes layout s name (rw stands.same_layout at h.1))
