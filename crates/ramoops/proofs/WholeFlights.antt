-- All stores of a flight made in the machine, and a call begun and finished
use Rattle.std.proofs.Common.{◌≡◌, ℕ, ◌-◌, ◌<◌, ◌==◌, ◌||◌, Bool, true, false, cond, is_some, List, [], length, take}
use Rattle.std.proofs.Common.{slice_get, get_or, refl, sym, ap, ◌∙◌, subst, arith, Option, Some, None, Result, Ok, Err}
use Rattle.std.proofs.Common.{true≢false}
use Rattle.zone_spec.specs.declared.Zone.{Zone}
use Rattle.zone_spec.specs.declared.Kind.TheVariants.{Dump as DumpKind}
use Rattle.zone_spec.specs.declared.Refusal.{Refusal}
use Rattle.zone_spec.specs.Records.{is_of}
use Rattle.zone_spec.specs.Layouts.{zone_place}
use Rattle.machine_spec.specs.States.{Flight, LiveZone, LiveState}
use Rattle.machine_spec.specs.ZoneCalls.{begun, stepped, finished, stores_left}
use Rattle.machine_spec.specs.LiveZones.{Target, target_at, with_zone, changed}
use Rattle.machine_spec.specs.LiveCalls.{Ask, Append, Erase, Dump, asked_name, asked_zone, call_of, is_barred, begins}
use Rattle.machine_spec.specs.LiveCalls.{begin, make, and_finish, finish_at}
use Rattle.ramoops.specs.declared.zones.HeldZone.{HeldZone}
use Rattle.ramoops.specs.LiveSeen.{LiveSeen, StandsLive, Leaves, ChangesZone, StoresNext, IsLeftAt}
use Rattle.ramoops.specs.Places.{unless_dump, ring_at, place_asked}
use Rattle.ramoops.specs.Storing.{stores_left_of}
use Rattle.std.proofs.lemmas.Bool.Decides.{nat_tests}
use Rattle.std.proofs.lemmas.List.{nil_from_length}
use Rattle.std.proofs.lemmas.Option.{slice_get_within}
use Rattle.std.proofs.Math.Seq.{take-length}
use Rattle.circular_buffer.proofs.Places.{slice_get-set_same}
use Rattle.zone_spec.specs.declared.Refusal.TheVariants.{Busy}
use Rattle.zone_spec.specs.Told.{Call}
use Rattle.zone_spec.specs.Stores.{Store}
use Rattle.zone_spec.specs.Calls.{call_stores}
use Rattle.prz_region.specs.CutRegion.{CutRegion, stored}
use Rattle.ramoops.specs.Made.{MakesStores, MadeAt, next_of, next_stores, left_stores}
use Rattle.ramoops.proofs.Begun.{here, target_is, zone_asked}
use Rattle.ramoops.proofs.CallPremises.{own, over}
use Rattle.ramoops.proofs.StepStates.{left_here}

-- what is left of the flight at a place, by what is read of the machine's fields
pub is_left : (v x : LiveSeen) (i : ℕ) (below : i < length x.layout) (h : HeldZone) (n : ℕ) → v ≡ x
    → h ≡ get_or v.zones i h → n ≡ stores_left_of h.flight → IsLeftAt i x n
is_left v x i below h n e eh en layout mem s z live stands ez el =
    let o = own layout mem x s stands in
    let at = here x.layout x.mem x s o i below in
    let same_z : at.zone ≡ z = (let k : Some at.zone ≡ Some z = sym at.of_layout
    ∙ ap (λ (l : List Zone). slice_get l i) stands.same_layout ∙ ez in cc) in
    let same_l : at.live ≡ live = (let k : Some at.live ≡ Some live = sym at.of_state ∙ el in cc) in
    ap (λ (y : Zone). stores_left live.flight y) (sym same_z)
    ∙ ap (λ (l : LiveZone). stores_left l.flight at.zone) (sym same_l)
    ∙ left_here v x i below h e eh s o ∙ sym en

-- so many stores finish it
pub finishes : (v w : LiveSeen) (i n : ℕ) → IsLeftAt i v n → StoresNext n i v w
    → ChangesZone (λ z live. finished z live) i v w
finishes v w i n left next layout mem s z live stands ez el =
    subst (λ (k : ℕ). StandsLive layout mem w (with_zone layout s i live (stepped z k live)))
    (sym (left layout mem s z live stands ez el)) (next layout mem s z live stands ez el)

-- and they are all that are left
pub makes_left : (v w : LiveSeen) (i n : ℕ) → IsLeftAt i v n → MakesStores (next_stores n) i v w
    → MakesStores left_stores i v w
makes_left v w i n left makes layout mem s z live stands ez el =
    makes layout mem s z live stands ez el
    ∙ ap (λ (k : ℕ). stored v.spans i (next_stores k z live)) (sym (left layout mem s z live stands ez el))

-- the zone that is asked for is at the call's place
ring_some : (layout : List Zone) (o : Option ℕ) (i : ℕ) → ring_at layout o ≡ Some i → o ≡ Some i
ring_some layout None i e = absurd (cc)
ring_some layout (Some j) i e = at (slice_get layout j) e
  where
    at : (z : Option Zone) → unless_dump j z ≡ Some i → Some j ≡ Some i
    at None k = absurd (cc)
    at (Some z) k = by (is_of DumpKind z.name.kind) k
      where
        by : (t : Bool) → cond t None (Some j) ≡ Some i → Some j ≡ Some i
        by true m = absurd (cc)
        by false m = m

place_of_name : (layout : List Zone) (cursor i : ℕ) (s : LiveState) (ask : Ask) → s.cursor ≡ cursor
    → place_asked layout cursor ask ≡ Some i → zone_place layout (asked_name s ask) ≡ Some i
place_of_name layout cursor i s (Append zone payload) at e = ring_some layout (zone_place layout zone) i e
place_of_name layout cursor i s (Erase zone) at e = e
place_of_name layout cursor i s (Dump time packed body) at e =
    ap (λ (n : ℕ). zone_place layout (record { kind = DumpKind; index = n })) at ∙ e

-- a call that was begun in its zone, and whose stores were all made there, is made
pub make_leaves : (v u w : LiveSeen) (i : ℕ) (ask : Ask) → place_asked v.layout v.cursor ask ≡ Some i
    → i < length v.layout → ((layout : List Zone) (mem : ℕ) (s : LiveState) → StandsLive layout mem v s
    → Leaves layout mem (begin layout s ask) u) → ChangesZone (λ z live. finished z live) i u w
    → (layout : List Zone) (mem : ℕ) (s : LiveState) → StandsLive layout mem v s
    → Leaves layout mem (make layout s ask) w
make_leaves v u w i ask place below begun ends layout mem s stands =
    over layout mem v s (λ l m. Leaves l m (make l s ask) w) stands
    (let o = own layout mem v s stands in
    let b = begun v.layout v.mem s o in
    let at = here v.layout v.mem u b.next b.stands i below in
    let there : target_at v.layout b.next (zone_place v.layout (asked_name s ask))
    ≡ Some (record { place = i; zone = at.zone; live = at.live }) =
    ap (target_at v.layout b.next) (place_of_name v.layout v.cursor i s ask o.cursor place)
    ∙ target_is v.layout v.mem u b.next b.stands i at.zone at.live at.of_layout at.of_state in
    record {
      next = with_zone v.layout b.next i at.live (finished at.zone at.live);
      done = ap (and_finish v.layout (asked_name s ask)) b.done
          ∙ ap (λ (t : Option Target). Ok (finish_at v.layout b.next t)) there;
      stands = ends v.layout v.mem b.next at.zone at.live b.stands at.of_layout at.of_state;
    })

idle_left : (z : Zone) (o : Option Flight) → is_some o ≡ false → next_of o z (stores_left o z) ≡ []
idle_left z None e = refl
idle_left z (Some f) e = absurd (true≢false e)

-- all stores of a call that was just begun, where no flight stood before
whole_call : (z : Zone) (call : Call) (live : LiveZone) (b : Bool) → is_some live.flight ≡ false
    → (length (call_stores z call live.image) == 0) ≡ b
    → left_stores z (cond b live (record live { flight = Some (record { image = live.image; call = call; made = 0 }) }))
    ≡ call_stores z call live.image
whole_call z call live true idle e =
    let none : length (call_stores z call live.image) ≡ 0 = grind (arith, nat_tests) in
    idle_left z live.flight idle ∙ sym (nil_from_length (call_stores z call live.image) none)
whole_call z call live false idle e =
    let all : List Store = call_stores z call live.image in
    let n : length all - 0 ≡ length all = omega arith in
    ap (λ (k : ℕ). take k all) n ∙ take-length all

or_none : (a b : Bool) → (a || b) ≡ false → b ≡ false
or_none true b e = absurd (true≢false e)
or_none false b e = e

-- a call that may begin is begun there, and no flight stood there
begun_there : (layout : List Zone) (s next : LiveState) (call : Call) (barred : Bool) (t : Target) (b : Bool)
    → (barred || is_some t.live.flight) ≡ b → begins layout s call barred (Some t) ≡ Ok next
    → (is_some t.live.flight ≡ false) × (next ≡ changed layout s t (λ z zone. begun z call zone))
begun_there layout s next call barred t true e k =
    let f : Err Busy ≡ Ok next = ap (λ (x : Bool). cond x (Err Busy) (Ok (changed layout s t (λ z zone. begun z call zone))))
    (sym e) ∙ k in
    absurd (cc)
begun_there layout s next call barred t false e k =
    let f : ◌≡◌ {A = Result LiveState Refusal} (Ok (changed layout s t (λ z zone. begun z call zone))) (Ok next) =
    ap (λ (x : Bool). cond x (Err Busy) (Ok (changed layout s t (λ z zone. begun z call zone)))) (sym e) ∙ k in
    let same : changed layout s t (λ z zone. begun z call zone) ≡ next = cc in
    (or_none barred (is_some t.live.flight) e, sym same)

-- a call that was begun in its zone, and whose stores were all made there, made just its stores
pub make_made : (v u w : LiveSeen) (i : ℕ) (ask : Ask) → place_asked v.layout v.cursor ask ≡ Some i
    → i < length v.layout → ((layout : List Zone) (mem : ℕ) (s : LiveState) → StandsLive layout mem v s
    → Leaves layout mem (begin layout s ask) u) → u.spans ≡ v.spans → MakesStores left_stores i u w
    → (layout : List Zone) (mem : ℕ) (s : LiveState) → StandsLive layout mem v s
    → MadeAt (asked_zone layout s ask) (λ z live. call_stores z (call_of ask) live.image) v.spans w.spans
make_made v u w i ask place below begun_u same makes layout mem s stands =
    over layout mem v s (λ l m. MadeAt (asked_zone l s ask) (λ z live. call_stores z (call_of ask) live.image) v.spans
    w.spans) stands
    (let o = own layout mem v s stands in
    let b = begun_u v.layout v.mem s o in
    let at = here v.layout v.mem v s o i below in
    let t : Target = record { place = i; zone = at.zone; live = at.live } in
    let asked : asked_zone v.layout s ask ≡ Some t = zone_asked v.layout v.mem v s o ask
    ∙ ap (target_at v.layout s) place ∙ target_is v.layout v.mem v s o i at.zone at.live at.of_layout at.of_state in
    let did = begun_there v.layout s b.next (call_of ask) (is_barred v.layout s ask) t _ refl
    (ap (begins v.layout s (call_of ask) (is_barred v.layout s ask)) (sym asked) ∙ b.done) in
    let new : LiveZone = begun at.zone (call_of ask) at.live in
    let there : slice_get b.next.zones i ≡ Some new = ap (λ (x : LiveState). slice_get x.zones i) did.1
    ∙ slice_get-set_same s.zones i new (slice_get_within s.zones i at.live at.of_state) in
    subst (λ (p : Option Target). MadeAt p (λ z live. call_stores z (call_of ask) live.image) v.spans w.spans) (sym asked)
    (makes v.layout v.mem b.next at.zone new b.stands at.of_layout there
    ∙ ap (λ (c : CutRegion). stored c i (left_stores at.zone new)) same
    ∙ ap (λ (ss : List Store). stored v.spans i ss) (whole_call at.zone (call_of ask) at.live _ did.0 refl)))

pub make_refused : (layout : List Zone) (s : LiveState) (ask : Ask) (why : Refusal) → begin layout s ask ≡ Err why
    → make layout s ask ≡ Err why
make_refused layout s ask why e = ap (and_finish layout (asked_name s ask)) e
