-- Steps of a call, one by one, are what a line stores
use Rattle.std.proofs.Common.{◌≡◌, ℕ, zero, suc, ◌+◌, ◌<◌, ◌≤◌, Bool, true, false, nat_lt, List, refl, sym, ap, ◌∙◌}
use Rattle.std.proofs.Common.{subst, arith, add-one, Some, None, Option, Ok, Err, is_some}
use Rattle.std.proofs.lemmas.Bool.{ltb-true, ltb-false}
use Rattle.machine_spec.specs.Zones.{zone_bytes}
use Rattle.shared_spec.specs.declared.NoCall.{NoCall}
use Rattle.shared_spec.specs.declared.SharedRefusal.{SharedRefusal}
use Rattle.shared_spec.specs.Calls.{SharedCall, open_call}
use Rattle.shared_spec.specs.Machine.{SharedZone, opened, stepped_if, step_answer}
use Rattle.shared_spec.specs.Runs.{SharedOperation, Reserve as ReserveBytes, StoreNext, operated}
use Rattle.shared_spec.specs.Histories.{History, shared_zone, and_then}
use Rattle.shared_laws.proofs.Seats.{one_more_operation}
use Rattle.shared_ring.specs.Seen.{SharedSeen, StandsFor, IsLeftBy, IsStepped, IsReserved}
use Rattle.script_spec.specs.SharedScripts.{with_steps, stores, reserves}
use Rattle.script_spec.specs.declared.Cause.TheVariants.{Idle}
use Rattle.shared_session.specs.Left.{IsLeft}

pub next_zone : (h : History) (o : SharedOperation) → shared_zone (and_then h o) ≡ operated h.zone (shared_zone h) o
next_zone h o = one_more_operation h.zone (opened h.zone (zone_bytes h.zone h.image)) h.operations o

-- a call that is not open, in a zone that is left so
record IsIdle (h : History) (t : ℕ) (v : SharedSeen) : Type 0 where
  left : IsLeftBy h v
  none : open_call (shared_zone h).calls t ≡ None

idle_next : (h : History) (t : ℕ) (v : SharedSeen) → IsIdle h t v → IsIdle (and_then h (StoreNext t)) t v
idle_next h t v i =
    let same : shared_zone (and_then h (StoreNext t)) ≡ shared_zone h =
    next_zone h (StoreNext t) ∙ ap (λ (o : Option SharedCall). stepped_if o h.zone (shared_zone h) t) i.none in
    record {
      left = record {
        can = i.left.can;
        stands = subst (λ (x : SharedZone). StandsFor h.zone h.image x v) (sym same) i.left.stands;
      };
      none = ap (λ (x : SharedZone). open_call x.calls t) same ∙ i.none;
    }

idle_on : (h : History) (t : ℕ) (v : SharedSeen) (i m : ℕ) → i ≤ m → IsIdle (with_steps h t i) t v
    → IsIdle (with_steps h t m) t v
unfolding with_steps
idle_on h t v i zero le idle =
    let e : i ≡ 0 = omega (arith, le) in subst (λ (n : ℕ). IsIdle (with_steps h t n) t v) e idle
idle_on h t v i (suc m) le idle = by (nat_lt m i) refl (λ less. idle_on h t v i m less idle)
  where
    by : (b : Bool) → nat_lt m i ≡ b → (i ≤ m → IsIdle (with_steps h t m) t v) → IsIdle (with_steps h t (suc m)) t v
    by true e so_far =
        let same : i ≡ suc m = omega (arith, le, ltb-true m i e) in
        subst (λ (n : ℕ). IsIdle (with_steps h t n) t v) same idle
    by false e so_far = idle_next (with_steps h t m) t v (so_far (omega (arith, ltb-false m i e)))

not_stepped : (o : Option SharedCall) (e : NoCall) → IsStepped (step_answer o) (Err e) → o ≡ None
not_stepped None e h = refl
not_stepped (Some c) e h = absurd h

-- the call is done before so many steps
pub steps_done : (h : History) (t made count : ℕ) (old new : SharedSeen) (e : NoCall) → made < count
    → IsLeftBy (with_steps h t made) old
    → ((g : History) → IsLeftBy g old → IsStepped (step_answer (open_call (shared_zone g).calls t)) (Err e))
    → new ≡ old → IsLeftBy (with_steps h t count) new
steps_done h t made count old new e less left answer same =
    let none : open_call (shared_zone (with_steps h t made)).calls t ≡ None =
    not_stepped (open_call (shared_zone (with_steps h t made)).calls t) e (answer (with_steps h t made) left) in
    let idle : IsIdle (with_steps h t made) t old = record { left = left; none = none } in
    subst (λ (v : SharedSeen). IsLeftBy (with_steps h t count) v) (sym same)
    (idle_on h t old made count (omega (arith, less)) idle).left

pub steps_none : (h : History) (t : ℕ) (v : SharedSeen) → IsLeftBy h v → IsLeftBy (with_steps h t 0) v
unfolding with_steps
steps_none h t v l = l

steps_suc : (h : History) (t made : ℕ) (v : SharedSeen)
    → IsLeftBy (and_then (with_steps h t made) (StoreNext t)) v → IsLeftBy (with_steps h t (suc made)) v
unfolding with_steps
steps_suc h t made v l = l

pub steps_next : (h : History) (t made : ℕ) (v : SharedSeen)
    → IsLeftBy (and_then (with_steps h t made) (StoreNext t)) v → IsLeftBy (with_steps h t (made + 1)) v
steps_next h t made v l = subst (λ (n : ℕ). IsLeftBy (with_steps h t n) v) (sym (add-one made)) (steps_suc h t made v l)

-- a payload that was reserved
pub reserved : (h : History) (payload : List ℕ) (o : Option SharedRefusal) (n answer : ℕ) (v : SharedSeen)
    → IsReserved o n payload (Ok answer) → IsLeftBy (and_then h (ReserveBytes payload)) v
    → IsLeft (reserves h payload o) v
reserved h payload None n answer v is l =
    record { history = and_then h (ReserveBytes payload); is = refl; left = l }
reserved h payload (Some why) n answer v is l = absurd is

-- an open call's line, and one of a call that is not open
pub stored : (h : History) (t k : ℕ) (o : Option SharedCall) (v : SharedSeen) → true ≡ is_some o
    → IsLeftBy (with_steps h t k) v → IsLeft (stores h t k o) v
stored h t k None v e l = cc
stored h t k (Some c) v e l = record { history = with_steps h t k; is = refl; left = l }

pub is_idle : (h : History) (t k : ℕ) (o : Option SharedCall) → false ≡ is_some o → stores h t k o ≡ Err Idle
is_idle h t k None e = refl
is_idle h t k (Some c) e = cc
