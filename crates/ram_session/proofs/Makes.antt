-- A call begun and all its stores made
use Rattle.std.proofs.Common.{◌≡◌, ℕ, cond, is_some, List, Option, Some, None, Ok, Err, refl}
use Rattle.zone_spec.specs.declared.Zone.{Zone}
use Rattle.zone_spec.specs.declared.ZoneName.{ZoneName}
use Rattle.zone_spec.specs.declared.Refusal.{Refusal}
use Rattle.zone_spec.specs.declared.Refusal.TheVariants.{Idle}
use Rattle.zone_spec.specs.Layouts.{IsLayout}
use Rattle.machine_spec.specs.States.{Flight, LiveState, Live}
use Rattle.machine_spec.specs.Sound.{IsState, IsAsk}
use Rattle.machine_spec.specs.LiveZones.{Target, target, changed}
use Rattle.machine_spec.specs.ZoneCalls.{finished}
use Rattle.machine_spec.specs.LiveCalls.{Ask, asked_name, begin, make, finish, goes_on}
use Rattle.machine_spec.specs.Operations.{Begin, operated, left_by}
use Rattle.machine_laws.proofs.Operations.{operations_keep_states_sound}
use Rattle.ramoops.specs.LiveSeen.{LiveSeen}
use Rattle.script_laws.proofs.Steps.{make_is_begin_and_steps}
use Rattle.ram_session.specs.Answers.{Done, IsRefused, Begun, NotBegun}

begun_sound : (layout : List Zone) (mem : ℕ) (s next : LiveState) (ask : Ask) → IsLayout layout mem
    → IsState layout mem (Live s) → IsAsk ask → begin layout s ask ≡ Ok next → IsState layout mem (Live next)
begun_sound layout mem s next ask lies state fit e =
    let same : left_by (Live s) (operated layout (Live s) (Begin ask)) ≡ Live next = rw e refl in
    rw same at (operations_keep_states_sound layout mem (Live s) (Begin ask) lies state fit)

pub make_done : (v b w : LiveSeen) (ask : Ask) (name : ZoneName) → IsAsk ask → Begun v b ask name
    → Done b w (λ layout s. finish layout s name) → Done v w (λ layout s. make layout s ask)
make_done v b w ask name fit begun done layout mem s lies stands state =
    let g = begun layout mem s stands in
    let a = g.1 in
    let f = done layout mem a.next lies a.stands (begun_sound layout mem s a.next ask lies state fit a.done) in
    record {
      next = f.next;
      done = (make_is_begin_and_steps layout s a.next ask a.done).0 f.next (rw g.0 at f.done);
      stands = f.stands;
    }

idle_there : (layout : List Zone) (s : LiveState) (o : Option Target) (why : Refusal)
    → goes_on layout s (λ z zone. finished z zone) o ≡ Err why → (t : Target) → o ≡ Some t → t.live.flight ≡ None
idle_there layout s None why h t e = absurd (cc)
idle_there layout s (Some u) why h t e = let same : u ≡ t = cc in rw same at (grounded u.live.flight h)
  where
    grounded : (g : Option Flight) → cond (is_some g) (Ok (changed layout s u (λ z zone. finished z zone))) (Err Idle)
        ≡ Err why → g ≡ None
    grounded None h = refl
    grounded (Some f) h = absurd (cc)

pub make_idle : (v b w : LiveSeen) (ask : Ask) (name : ZoneName) (why : Refusal) → IsAsk ask → Begun v b ask name
    → w ≡ b → IsRefused b why (λ layout s. finish layout s name) → Done v w (λ layout s. make layout s ask)
make_idle v b w ask name why fit begun same refused layout mem s lies stands state =
    let g = begun layout mem s stands in
    let a = g.1 in
    let r : finish layout a.next (asked_name s ask) ≡ Err why =
    rw g.0 at (refused layout mem a.next lies a.stands
    (begun_sound layout mem s a.next ask lies state fit a.done)) in
    record {
      next = a.next;
      done = (make_is_begin_and_steps layout s a.next ask a.done).1
          (idle_there layout a.next (target layout a.next (asked_name s ask)) why r);
      stands = rw same a.stands;
    }

pub make_refused : (v : LiveSeen) (ask : Ask) (why : Refusal) → NotBegun v ask why
    → IsRefused v why (λ layout s. make layout s ask)
make_refused v ask why refused layout mem s lies stands state = rw (refused layout mem s stands) refl
