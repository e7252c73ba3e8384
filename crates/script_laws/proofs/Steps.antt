-- A flight finished by single steps
use Rattle.std.proofs.Common.{◌≡◌, ◌==◌, ℕ, ◌+◌, ◌%◌, ◌<◌, ◌≤◌, Bool, true, false, not, cond, ◌&&◌, ◌||◌, if◌then◌else◌}
use Rattle.std.proofs.Common.{nat_lt, is_some, List, [], ◌∷◌, zero, suc, length, slice_get, slice_set, Option, Some}
use Rattle.std.proofs.Common.{None, Ok, Err, refl, sym, ap, ◌∙◌, arith, subst, inl, inr}
use Rattle.std.proofs.lemmas.Bool.Decides.{nat_tests}
use Rattle.std.proofs.lemmas.Bool.{cases_lt}
use Rattle.std.proofs.lemmas.List.{set-set}
use Rattle.zone_spec.specs.declared.Zone.{Zone}
use Rattle.zone_spec.specs.declared.ZoneName.{ZoneName}
use Rattle.zone_spec.specs.declared.Refusal.{Refusal}
use Rattle.zone_spec.specs.declared.Refusal.TheVariants.{Idle, Busy}
use Rattle.zone_spec.specs.Told.{told_after, Erase as EraseCall}
use Rattle.zone_spec.specs.Calls.{call_stores, image_after}
use Rattle.zone_spec.specs.Layouts.{zone_place}
use Rattle.machine_spec.specs.States.{Flight, LiveZone, LiveState, Live}
use Rattle.machine_spec.specs.Sound.{IsState, IsInFlight, Stands}
use Rattle.machine_laws.proofs.Targets.{target-some}
use Rattle.machine_spec.specs.ZoneCalls.{total_stores, begun, stepped, stepped_by, stores_left, finished}
use Rattle.machine_spec.specs.LiveZones.{Target, target, target_of, target_at, with_zone, changed, flies_dump}
use Rattle.zone_spec.specs.Told.{Call}
use Rattle.machine_spec.specs.Zones.{dump_zones}
use Rattle.machine_spec.specs.LiveCalls.{Ask, Erase as EraseAsk, call_of, asked_name, is_barred, asked_zone, begin}
use Rattle.machine_spec.specs.LiveCalls.{begins, make, step, finish, finish_at, goes_on}

nat_lt-true : {a b : ℕ} → a < b → nat_lt a b ≡ true
nat_lt-true h = grind (arith, nat_tests)

nat_lt-false : {a b : ℕ} → b ≤ a → nat_lt a b ≡ false
nat_lt-false h = grind (arith, nat_tests)

-- ---- of one zone

-- a zone whose flight's last store is made
abbrev last_made : Zone → Flight → LiveZone → LiveZone
last_made z f live = record {
  image = image_after z f.call f.image (total_stores z f);
  told = told_after z.cap f.call live.told;
  flight = None;
}

step_within : (z : Zone) (live : LiveZone) (f : Flight) (k : ℕ) → f.made + k < total_stores z f
    → stepped_by (Some f) z k live ≡ record live {
      image = image_after z f.call f.image (f.made + k);
      flight = Some (record f { made = f.made + k });
    }
step_within z live f k h = rw (nat_lt-true h) refl

step_last : (z : Zone) (live : LiveZone) (f : Flight) (k : ℕ) → total_stores z f ≤ f.made + k
    → stepped_by (Some f) z k live ≡ last_made z f live
step_last z live f k h = rw (nat_lt-false h) refl

-- some stores and then one more
one_more : (z : Zone) (live : LiveZone) (f : Flight) (k : ℕ) → live.flight ≡ Some f → f.made + k < total_stores z f
    → stepped z 1 (stepped z k live) ≡ stepped z (k + 1) live
one_more z live f k e h =
    let g : Flight = record f { made = f.made + k } in
    let now : LiveZone = record live { image = image_after z f.call f.image (f.made + k); flight = Some g } in
    let first : stepped z k live ≡ now = rw e (step_within z live f k h) in
    rw first (elim (cases_lt (f.made + k + 1) (total_stores z f)) [
      | inl j ↦
          let sum : f.made + (k + 1) ≡ f.made + k + 1 = omega arith in
          let within : f.made + (k + 1) < total_stores z f = rw sum j in
          let last : stepped z (k + 1) live ≡ record live {
            image = image_after z f.call f.image (f.made + (k + 1));
            flight = Some (record f { made = f.made + (k + 1) });
          } = rw e (step_within z live f (k + 1) within) in
          rw (last, sum) (step_within z now g 1 j)
      | inr j ↦
          let last : stepped z (k + 1) live ≡ last_made z f live =
          rw e (step_last z live f (k + 1) (omega (arith, j))) in
          rw last (step_last z now g 1 j)
    ])

some_none : {A : Type 0} {x : A} → Some x ≡ None → ⊥
some_none e = cc

-- ---- of the store

-- a place that is set to what stands there
set_read : (zones : List LiveZone) (i : ℕ) (v : LiveZone) → slice_get zones i ≡ Some v → slice_set zones i v ≡ zones
set_read [] i v e = refl
set_read (w ∷ ws) zero v e = let same : w ≡ v = cc in rw same refl
set_read (w ∷ ws) (suc i) v e = ap (λ (rest : List LiveZone). w ∷ rest) (set_read ws i v e)

-- the item at a place that was set
get_changed : (zones : List LiveZone) (i : ℕ) (v new : LiveZone) → slice_get zones i ≡ Some v
    → slice_get (slice_set zones i new) i ≡ Some new
get_changed [] i v new e = absurd (cc)
get_changed (w ∷ ws) zero v new e = refl
get_changed (w ∷ ws) (suc i) v new e = get_changed ws i v new e

-- after a change of its zone the target is the changed zone, at the same place
target_changed : (layout : List Zone) (live : LiveState) (name : ZoneName) (t : Target) (new : LiveZone)
    → target layout live name ≡ Some t → target layout (with_zone layout live t.place t.live new) name
    ≡ Some (record { place = t.place; zone = t.zone; live = new })
target_changed layout live name t new e = at_place (zone_place layout name) refl e
  where
    at_place : (o : Option ℕ) → zone_place layout name ≡ o → target_at layout live o ≡ Some t
        → target_at layout (with_zone layout live t.place t.live new) o
        ≡ Some (record { place = t.place; zone = t.zone; live = new })
    at_place None h k = absurd (cc)
    at_place (Some i) h k = at_zone (slice_get layout i) (slice_get live.zones i) refl refl k
      where
        at_zone : (a : Option Zone) (b : Option LiveZone) → slice_get layout i ≡ a → slice_get live.zones i ≡ b
            → target_of i a b ≡ Some t → target_at layout (with_zone layout live t.place t.live new) (Some i)
            ≡ Some (record { place = t.place; zone = t.zone; live = new })
        at_zone None b p q k = absurd (cc)
        at_zone (Some z) None p q k = absurd (cc)
        at_zone (Some z) (Some v) p q k =
            let s : record { place = i; zone = z; live = v } ≡ t = cc in
            subst (λ (u : Target). target_at layout (with_zone layout live u.place u.live new) (Some i)
            ≡ Some (record { place = u.place; zone = u.zone; live = new })) s
            (rw (p, get_changed live.zones i v new q) refl)

-- a step that was made went to a flight
step_went : (layout : List Zone) (live next : LiveState) (o : Option Target) (change : Zone → LiveZone → LiveZone)
    → goes_on layout live change o ≡ Ok next → (t : Target) × (f : Flight) × (o ≡ Some t) × (t.live.flight ≡ Some f)
    × (next ≡ changed layout live t change)
step_went layout live next None change h = absurd (cc)
step_went layout live next (Some t) change h = flown t.live.flight refl h
  where
    flown : (o : Option Flight) → t.live.flight ≡ o → cond (is_some o) (Ok (changed layout live t change)) (Err Idle)
        ≡ Ok next → (u : Target) × (f : Flight) × (let s : Option Target = Some t in s ≡ Some u)
        × (u.live.flight ≡ Some f) × (next ≡ changed layout live u change)
    flown None e h = absurd (cc)
    flown (Some f) e h = let same : changed layout live t change ≡ next = cc in (t, f, refl, e, sym same)

-- the flight of a zone after k stores: none is left where these are all
left_none : (z : Zone) (live : LiveZone) (f : Flight) (k : ℕ) → live.flight ≡ Some f
    → (stepped z k live).flight ≡ None → total_stores z f ≤ f.made + k
left_none z live f k e h = elim (cases_lt (f.made + k) (total_stores z f)) [
  | inl j ↦ (let some : (stepped z k live).flight ≡ Some (record f { made = f.made + k }) = rw
      (e, step_within z live f k j) refl in absurd (some_none (sym some ∙ h)))
  | inr j ↦ j
]

left_some : (z : Zone) (live : LiveZone) (f g : Flight) (k : ℕ) → live.flight ≡ Some f
    → (stepped z k live).flight ≡ Some g → (f.made + k < total_stores z f) × (g.call ≡ f.call)
left_some z live f g k e h = elim (cases_lt (f.made + k) (total_stores z f)) [
  | inl j ↦ (let some : (stepped z k live).flight ≡ Some (record f { made = f.made + k }) = rw
      (e, step_within z live f k j) refl in (let same : record f { made = f.made + k } ≡ g = cc in
      (j, ap (λ (x : Flight). x.call) (sym same))))
  | inr j ↦ (let none : (stepped z k live).flight ≡ None = rw (e, step_last z live f k j) refl in
      absurd (some_none (sym h ∙ none)))
]

-- ---- steps of the store

goes : (layout : List Zone) (live : LiveState) (o : Option Target) (change : Zone → LiveZone → LiveZone) (t : Target)
    (f : Flight) → o ≡ Some t → t.live.flight ≡ Some f → goes_on layout live change o
    ≡ Ok (changed layout live t change)
goes layout live o change t f e h = rw (e, h) refl

refused_idle : (layout : List Zone) (live : LiveState) (o : Option Target) (change : Zone → LiveZone → LiveZone)
    (t : Target) (why : Refusal) → o ≡ Some t → goes_on layout live change o ≡ Err why → t.live.flight ≡ None
refused_idle layout live o change t why e h = idle t.live.flight (rw e at h)
  where
    idle : (g : Option Flight) → cond (is_some g) (Ok (changed layout live t change)) (Err Idle) ≡ Err why → g ≡ None
    idle None h = refl
    idle (Some f) h = absurd (cc)

-- the cursor stays where a flight goes on
still : (dump : Bool) (o : Option Flight) (f : Flight) (a b : ℕ) → o ≡ Some f
    → (if dump && not (is_some o) then a else b) ≡ b
still true o f a b e = rw e refl
still false o f a b e = refl

-- two changes of a zone, of which the first leaves a flight of the same call
with_twice : (layout : List Zone) (live : LiveState) (i : ℕ) (old one two : LiveZone) (g : Flight)
    → one.flight ≡ Some g → flies_dump one.flight ≡ flies_dump old.flight
    → with_zone layout (with_zone layout live i old one) i one two ≡ with_zone layout live i old two
with_twice layout live i old one two g e same =
    let calm = still (flies_dump old.flight) one.flight g ((live.cursor + 1) % dump_zones layout) live.cursor e in
    rw (set-set live.zones i one two, calm, same) refl

same_dump : (o p : Option Flight) (f g : Flight) → o ≡ Some f → p ≡ Some g → g.call ≡ f.call
    → flies_dump p ≡ flies_dump o
same_dump o p f g e h c = rw (e, h, c) refl

-- a step that was made, with its target
pub record Went (layout : List Zone) (live next : LiveState) (name : ZoneName) (k : ℕ) : Type 0 where
  pub t : Target
  pub f : Flight
  pub target_is : target layout live name ≡ Some t
  pub flies : t.live.flight ≡ Some f
  pub next_is : next ≡ with_zone layout live t.place t.live (stepped t.zone k t.live)

went : (layout : List Zone) (live next : LiveState) (name : ZoneName) (k : ℕ) → step layout live name k ≡ Ok next
    → Went layout live next name k
went layout live next name k h =
    let w = step_went layout live next (target layout live name) (λ z zone. stepped z k zone) h in
    record { t = w.0; f = w.1; target_is = w.2; flies = w.3; next_is = w.4 }

after_target : (layout : List Zone) (live next : LiveState) (name : ZoneName) (k : ℕ)
    (w : Went layout live next name k) → target layout next name
    ≡ Some (record { place = w.t.place; zone = w.t.zone; live = stepped w.t.zone k w.t.live })
after_target layout live next name k w = rw w.next_is (target_changed layout live name w.t
    (stepped w.t.zone k w.t.live) w.target_is)

same_target : (t u : Target) (o : Option Target) → o ≡ Some t → o ≡ Some u → u ≡ t
same_target t u o e h = cc

pub steps_add_up : (layout : List Zone) (live next last : LiveState) (name : ZoneName) (count : ℕ)
    → step layout live name count ≡ Ok next → step layout next name 1 ≡ Ok last
    → step layout live name (count + 1) ≡ Ok last
steps_add_up layout live next last name k a b =
    let w = went layout live next name k a in
    let v = went layout next last name 1 b in
    let one = stepped w.t.zone k w.t.live in
    let here : v.t ≡ record { place = w.t.place; zone = w.t.zone; live = one } =
    same_target (record { place = w.t.place; zone = w.t.zone; live = one }) v.t (target layout next name)
    (after_target layout live next name k w) v.target_is in
    let flies_on : one.flight ≡ Some v.f = sym (ap (λ (t : Target). t.live.flight) here) ∙ v.flies in
    let l = left_some w.t.zone w.t.live w.f v.f k w.flies flies_on in
    let two : stepped w.t.zone 1 one ≡ stepped w.t.zone (k + 1) w.t.live =
    one_more w.t.zone w.t.live w.f k w.flies l.0 in
    let last_is : last ≡ with_zone layout next w.t.place one (stepped w.t.zone 1 one) = rw here at v.next_is in
    let all : last ≡ with_zone layout live w.t.place w.t.live (stepped w.t.zone (k + 1) w.t.live) =
    last_is ∙ ap (λ (s : LiveState). with_zone layout s w.t.place one (stepped w.t.zone 1 one)) w.next_is
    ∙ with_twice layout live w.t.place w.t.live one (stepped w.t.zone 1 one) v.f flies_on
    (same_dump w.t.live.flight one.flight w.f v.f w.flies flies_on l.1)
    ∙ ap (λ (x : LiveZone). with_zone layout live w.t.place w.t.live x) two in
    goes layout live (target layout live name) (λ z zone. stepped z (k + 1) zone) w.t w.f w.target_is w.flies
    ∙ ap (λ (s : LiveState). Ok s) (sym all)

pub steps_end : (layout : List Zone) (live next : LiveState) (name : ZoneName) (count more : ℕ) (why : Refusal)
    → step layout live name count ≡ Ok next → step layout next name 1 ≡ Err why
    → step layout live name (count + more) ≡ Ok next
steps_end layout live next name k more why a b =
    let w = went layout live next name k a in
    let one = stepped w.t.zone k w.t.live in
    let idle : one.flight ≡ None = refused_idle layout next (target layout next name) (λ z zone. stepped z 1 zone)
    (record { place = w.t.place; zone = w.t.zone; live = one }) why (after_target layout live next name k w) b in
    let all = left_none w.t.zone w.t.live w.f k w.flies idle in
    let far : stepped w.t.zone (k + more) w.t.live ≡ last_made w.t.zone w.f w.t.live =
    rw w.flies (step_last w.t.zone w.t.live w.f (k + more) (omega (arith, all))) in
    let near : one ≡ last_made w.t.zone w.f w.t.live = rw w.flies (step_last w.t.zone w.t.live w.f k all) in
    let same : stepped w.t.zone (k + more) w.t.live ≡ one = far ∙ sym near in
    goes layout live (target layout live name) (λ z zone. stepped z (k + more) zone) w.t w.f w.target_is w.flies
    ∙ ap (λ (s : LiveState). Ok s) (ap (λ (x : LiveZone). with_zone layout live w.t.place w.t.live x) same
    ∙ sym w.next_is)

begin_logs : (layout : List Zone) (live next : LiveState) (call : Call) (barred : Bool) (o : Option Target)
    → begins layout live call barred o ≡ Ok next → next.logs ≡ live.logs
begin_logs layout live next call barred None h = absurd (cc)
begin_logs layout live next call barred (Some t) h = begun_logs (barred || is_some t.live.flight) h
  where
    begun_logs : (b : Bool) → cond b (Err Busy) (Ok (changed layout live t (λ z zone. begun z call zone))) ≡ Ok next
        → next.logs ≡ live.logs
    begun_logs true h = absurd (cc)
    begun_logs false h = let same : changed layout live t (λ z zone. begun z call zone) ≡ next = cc in
        ap (λ (s : LiveState). s.logs) (sym same)

pub calls_keep_logs : (layout : List Zone) (live next : LiveState)
    → ((ask : Ask) → begin layout live ask ≡ Ok next → next.logs ≡ live.logs)
    × ((name : ZoneName) (count : ℕ) → step layout live name count ≡ Ok next → next.logs ≡ live.logs)
calls_keep_logs layout live next = (
  λ ask h. begin_logs layout live next (call_of ask) (is_barred layout live ask)
      (asked_zone layout live ask) h,
  λ name k h. ap (λ (s : LiveState). s.logs) (went layout live next name k h).next_is,
)

-- ---- no steps, and all

same_zone : (layout : List Zone) (live : LiveState) (i : ℕ) (old : LiveZone) (f : Flight)
    → slice_get live.zones i ≡ Some old → old.flight ≡ Some f → with_zone layout live i old old ≡ live
same_zone layout live i old f at e =
    let calm = still (flies_dump old.flight) old.flight f ((live.cursor + 1) % dump_zones layout) live.cursor e in
    rw (set_read live.zones i old at, calm) refl

no_step : (z : Zone) (live : LiveZone) (f : Flight) → live.flight ≡ Some f
    → live.image ≡ image_after z f.call f.image f.made → f.made < total_stores z f → stepped z 0 live ≡ live
no_step z live f e now left =
    let none : f.made + 0 ≡ f.made = omega arith in
    let within : f.made + 0 < total_stores z f = rw none left in
    let one : stepped z 0 live ≡ record live {
      image = image_after z f.call f.image (f.made + 0);
      flight = Some (record f { made = f.made + 0 });
    } = rw e (step_within z live f 0 within) in
    one ∙ (rw (none, ← now, ← e) refl)

in_flight : (z : Zone) (image told : List ℕ) (o : Option Flight) (f : Flight) → o ≡ Some f → Stands z image told o
    → IsInFlight z image told f
in_flight z image told o f e h = rw e at h

pub no_steps_leave_state : (layout : List Zone) (mem : ℕ) (live : LiveState) (name : ZoneName) (t : Target)
    (f : Flight) → IsState layout mem (Live live) → target layout live name ≡ Some t → t.live.flight ≡ Some f
    → step layout live name 0 ≡ Ok live
no_steps_leave_state layout mem live name t f state e flies =
    let at = target-some layout live name t e in
    let zone = state.zones.1 t.place t.zone t.live at.0 at.1 in
    let flight = in_flight t.zone t.live.image t.live.told t.live.flight f flies zone.stands in
    let none : stepped t.zone 0 t.live ≡ t.live = no_step t.zone t.live f flies flight.now flight.left in
    goes layout live (target layout live name) (λ z zone. stepped z 0 zone) t f e flies
    ∙ ap (λ (s : LiveState). Ok s) (ap (λ (x : LiveZone). with_zone layout live t.place t.live x) none
    ∙ same_zone layout live t.place t.live f at.1 flies)

pub finish_is_steps : (layout : List Zone) (live : LiveState) (name : ZoneName) (t : Target)
    → target layout live name ≡ Some t → finish layout live name
    ≡ step layout live name (stores_left t.live.flight t.zone)
finish_is_steps layout live name t e = rw e refl

finish_done : (layout : List Zone) (live last : LiveState) (o : Option Target)
    → goes_on layout live (λ z zone. finished z zone) o ≡ Ok last → finish_at layout live o ≡ last
finish_done layout live last None h = absurd (cc)
finish_done layout live last (Some t) h = flown t.live.flight h
  where
    flown : (g : Option Flight) → cond (is_some g) (Ok (changed layout live t (λ z zone. finished z zone))) (Err Idle)
        ≡ Ok last → changed layout live t (λ z zone. finished z zone) ≡ last
    flown None h = absurd (cc)
    flown (Some f) h = cc

no_flight_finished : (z : Zone) (live : LiveZone) → live.flight ≡ None → finished z live ≡ live
no_flight_finished z live e = rw e refl

calm_none : (o : Option Flight) (a b : ℕ) → o ≡ None → (if flies_dump o && not (is_some o) then a else b) ≡ b
calm_none o a b e = rw e refl

all_done : (layout : List Zone) (live : LiveState) (name : ZoneName) (o : Option Target) → target layout live name ≡ o
    → ((t : Target) → o ≡ Some t → t.live.flight ≡ None) → finish_at layout live o ≡ live
all_done layout live name None e h = refl
all_done layout live name (Some t) e h =
    let idle : t.live.flight ≡ None = h t refl in
    let at = target-some layout live name t e in
    let calm = calm_none t.live.flight ((live.cursor + 1) % dump_zones layout) live.cursor idle in
    ap (λ (x : LiveZone). with_zone layout live t.place t.live x) (no_flight_finished t.zone t.live idle)
    ∙ rw (set_read live.zones t.place t.live at.1, calm) refl

pub make_is_begin_and_steps : (layout : List Zone) (live begun : LiveState) (ask : Ask)
    → begin layout live ask ≡ Ok begun → ((last : LiveState) → finish layout begun (asked_name live ask) ≡ Ok last
    → make layout live ask ≡ Ok last) × (((t : Target) → target layout begun (asked_name live ask) ≡ Some t
    → t.live.flight ≡ None) → make layout live ask ≡ Ok begun)
make_is_begin_and_steps layout live begun ask h = (
  λ last f. rw h (ap (λ (s : LiveState). Ok s) (finish_done layout begun last
      (target layout begun (asked_name live ask)) f)),
  λ idle. rw h (ap (λ (s : LiveState). Ok s) (all_done layout begun (asked_name live ask)
      (target layout begun (asked_name live ask)) refl idle)),
)

-- ---- an erasure

calm : (dump : Option Flight) (g : Option Flight) (a b : ℕ) → flies_dump dump ≡ false
    → (if flies_dump dump && not (is_some g) then a else b) ≡ b
calm dump g a b e = rw e refl

erasing : (z : Zone) (live : LiveZone) → live.flight ≡ None → flies_dump (begun z EraseCall live).flight ≡ false
erasing z live idle = by (length (call_stores z EraseCall live.image) == 0)
  where
    by : (none : Bool) → flies_dump (cond none live (record live
        { flight = Some (record { image = live.image; call = EraseCall; made = 0 }) })).flight ≡ false
    by true = rw idle refl
    by false = refl

at_name : (layout : List Zone) (s : LiveState) (name : ZoneName) (i : ℕ) (z : Zone) (l : LiveZone)
    → zone_place layout name ≡ Some i → slice_get layout i ≡ Some z → slice_get s.zones i ≡ Some l
    → target layout s name ≡ Some (record { place = i; zone = z; live = l })
at_name layout s name i z l place zone live = rw (place, zone, live) refl

-- an erasure of an idle zone makes all its stores there, and changes nothing else
pub erase_made : (layout : List Zone) (s : LiveState) (i : ℕ) (z : Zone) (l : LiveZone)
    → zone_place layout z.name ≡ Some i → slice_get layout i ≡ Some z → slice_get s.zones i ≡ Some l → l.flight ≡ None
    → make layout s (EraseAsk z.name) ≡ Ok (record s { zones = slice_set s.zones i (finished z (begun z EraseCall l)) })
erase_made layout s i z l place zone live idle =
    let t : Target = record { place = i; zone = z; live = l } in
    let there : target layout s z.name ≡ Some t = at_name layout s z.name i z l place zone live in
    let one = begun z EraseCall l in
    let two = finished z one in
    let started : LiveState = with_zone layout s i l one in
    let first : begin layout s (EraseAsk z.name) ≡ Ok started = rw (there, idle) refl in
    let next : target layout started z.name ≡ Some (record { place = i; zone = z; live = one }) =
    target_changed layout s z.name t one there in
    let still : started.cursor ≡ s.cursor = calm l.flight one.flight ((s.cursor + 1) % dump_zones layout) s.cursor
    (rw idle refl) in
    let last : (with_zone layout started i one two).cursor ≡ started.cursor =
    calm one.flight two.flight ((started.cursor + 1) % dump_zones layout) started.cursor (erasing z l idle) in
    let all : with_zone layout started i one two ≡ record s { zones = slice_set s.zones i two } =
    rw (last, still, set-set s.zones i one two) refl in
    rw (first, next) (ap (λ (x : LiveState). Ok x) all)
