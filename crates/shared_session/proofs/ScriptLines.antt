-- A script's lines, done one by one in the zone
use Rattle.std.proofs.Common.{◌≡◌, ℕ, zero, suc, ◌+◌, ◌<◌, ◌≤◌, ◌^◌, List, [], ◌∷◌, length, take, get_or, refl, sym, ap}
use Rattle.std.proofs.Common.{◌∙◌, subst, arith, Some, None, Option, Result, Ok, Err, length-append, length-set}
use Rattle.std.proofs.lemmas.List.Sums.{fold_more}
use Rattle.std.proofs.lemmas.List.Folds.{fold_stuck}
use Rattle.std.proofs.lemmas.Grind.{common_steps}
use Rattle.zone_spec.specs.declared.Zone.{Zone}
use Rattle.shared_spec.specs.declared.SharedRefusal.{SharedRefusal}
use Rattle.shared_spec.specs.declared.SharedRefusal.TheVariants.{NoSeat as NoSeatThere, Crowded as CrowdedThere}
use Rattle.shared_spec.specs.Calls.{SharedCall, open_call}
use Rattle.shared_spec.specs.Machine.{SharedZone, refusal, reserved_unless, stepped_if}
use Rattle.shared_spec.specs.Runs.{Reserve as ReserveBytes, StoreNext as StoreByte, shared_after}
use Rattle.shared_spec.specs.Histories.{History, shared_zone, and_then}
use Rattle.shared_ring.specs.Seen.{SharedSeen, IsLeftBy}
use Rattle.grammar_spec.specs.Printed.{HasFields, AllHaveFields}
use Rattle.grammar_spec.specs.declared.line.Line.{Line}
use Rattle.grammar_spec.specs.declared.line.Line.TheVariants.{Blank, Reserve, StoreNext}
use Rattle.script_spec.specs.SharedScripts.{SharedRan, shared_on, next_shared, shared_ran, shared_line, reserves}
use Rattle.script_spec.specs.SharedScripts.{stores, with_steps}
use Rattle.script_spec.specs.declared.Cause.{Cause}
use Rattle.shared_session.specs.Left.{IsLeft, just_opened, IsOpened, PlaysAll, StopsAt}
use Rattle.shared_session.proofs.Steps.{next_zone}

abbrev calls_in : History → ℕ
calls_in h = length (shared_zone h).calls

-- ---- a line reserves at most one call

step_calls : (z : Zone) (x : SharedZone) (t : ℕ) (o : Option SharedCall)
    → length (stepped_if o z x t).calls ≡ length x.calls
step_calls z x t None = refl
step_calls z x t (Some c) = length-set x.calls t (record { payload = c.payload; stored = c.stored + 1 })

steps_calls : (h : History) (t k : ℕ) → calls_in (with_steps h t k) ≡ calls_in h
unfolding with_steps
steps_calls h t zero = refl
steps_calls h t (suc k) =
    let g = with_steps h t k in
    ap (λ (x : SharedZone). length x.calls) (next_zone g (StoreByte t))
    ∙ step_calls g.zone (shared_zone g) t (open_call (shared_zone g).calls t) ∙ steps_calls h t k

reserve_calls : (z : Zone) (x : SharedZone) (payload : List ℕ) (o : Option SharedRefusal)
    → length (reserved_unless o z x payload).calls ≤ length x.calls + 1
reserve_calls z x payload None =
    omega (arith, length-append x.calls (record { payload = payload; stored = 0 } ∷ []))
reserve_calls z x payload (Some why) = omega arith

by_reserving : (h next : History) (payload : List ℕ) (o : Option SharedRefusal) → reserves h payload o ≡ Ok next
    → calls_in next ≤ calls_in h + 1
by_reserving h next payload None e =
    let same : and_then h (ReserveBytes payload) ≡ next = cc in
    let zone = next_zone h (ReserveBytes payload) in
    let few = reserve_calls h.zone (shared_zone h) payload
    (refusal h.zone (shared_zone h).calls (length payload)) in
    omega (arith, few, ap (λ (x : SharedZone). length x.calls) zone, ap calls_in same)
by_reserving h next payload (Some NoSeatThere) e = cc
by_reserving h next payload (Some (CrowdedThere held)) e = cc

by_storing : (h next : History) (t k : ℕ) (o : Option SharedCall) → stores h t k o ≡ Ok next
    → calls_in next ≤ calls_in h + 1
by_storing h next t k None e = cc
by_storing h next t k (Some c) e =
    let same : with_steps h t k ≡ next = cc in
    omega (arith, steps_calls h t k, ap calls_in same)

line_calls : (h next : History) (line : Line) → shared_line h line ≡ Ok next → calls_in next ≤ calls_in h + 1
unfolding shared_line
line_calls h next Blank e = let same : h ≡ next = cc in omega (arith, ap calls_in same)
line_calls h next (Reserve payload) e =
    by_reserving h next payload (refusal h.zone (shared_zone h).calls (length payload)) e
line_calls h next (StoreNext t k) e = by_storing h next t k (open_call (shared_zone h).calls t) e
line_calls h next line e = cc

-- ---- lines in order

take_all : (lines : List Line) (i : ℕ) → length lines ≤ i → take i lines ≡ lines
take_all lines i h = grind (arith, common_steps)

-- the zone is left by the first i lines, and none of them was refused
pub record PlaysTo (z : Zone) (image : List ℕ) (lines : List Line) (i : ℕ) (v : SharedSeen) : Type 0 where
  pub ran : SharedRan
  pub is : shared_ran z image (take i lines) ≡ ran
  pub none : ran.refused ≡ None
  pub count : ran.count ≡ i
  pub few : calls_in ran.history ≤ i
  pub left : IsLeftBy ran.history v

abbrev pub PlaysSoFar : SharedSeen → List Line → ℕ → SharedSeen → Type 0
PlaysSoFar first lines i v = (z : Zone) (image : List ℕ) → IsLeftBy (just_opened z image) first
    → PlaysTo z image lines i v

abbrev begun : Zone → List ℕ → SharedRan
begun z image = record { history = just_opened z image; count = 0; refused = None }

none_reserved : (z : Zone) (image : List ℕ) → calls_in (just_opened z image) ≡ 0
unfolding shared_after
none_reserved z image = refl

pub plays_none : (first : SharedSeen) (lines : List Line) → PlaysSoFar first lines 0 first
plays_none first lines z image l = record {
  ran = begun z image;
  is = refl;
  none = refl;
  count = refl;
  few = omega (arith, none_reserved z image);
  left = l;
}

-- the zone has fewer reservations than lines
pub few_reserved : (first v : SharedSeen) (lines : List Line) (i : ℕ) → IsOpened first → i < 2 ^ 32
    → PlaysSoFar first lines i v → v.reserved < 2 ^ 63
few_reserved first v lines i o small so_far =
    let p = so_far o.zone o.image o.left in
    omega (arith, p.few, p.left.stands.reserved, small)

on_ok : (r : SharedRan) (c : Option Cause) (next : Result History Cause) (h : History) → c ≡ None → next ≡ Ok h
    → shared_on r c next ≡ record { history = h; count = r.count + 1; refused = None }
on_ok r c next h e g = rw (e, g) refl

on_err : (r : SharedRan) (c : Option Cause) (next : Result History Cause) (cause : Cause) → c ≡ None
    → next ≡ Err cause → shared_on r c next ≡ record r { refused = Some cause }
on_err r c next cause e g = rw (e, g) refl

pub plays_next : (first : SharedSeen) (lines : List Line) (i : ℕ) (line : Line) (old new : SharedSeen)
    → i < length lines → line ≡ get_or lines i line → PlaysSoFar first lines i old
    → ((h : History) → IsLeftBy h old → IsLeft (shared_line h line) new) → PlaysSoFar first lines (i + 1) new
plays_next first lines i line old new below is so_far does z image l =
    let p = so_far z image l in
    let d = does p.ran.history p.left in
    let now : next_shared p.ran (get_or lines i line)
    ≡ record { history = d.history; count = p.ran.count + 1; refused = None } =
    rw (← is) (on_ok p.ran p.ran.refused (shared_line p.ran.history line) d.history p.none d.is) in
    record {
      ran = record { history = d.history; count = p.ran.count + 1; refused = None };
      is = fold_more next_shared (begun z image) lines i line below
          ∙ ap (λ (r : SharedRan). next_shared r (get_or lines i line)) p.is ∙ now;
      none = refl;
      count = ap (λ n. n + 1) p.count;
      few = omega (arith, p.few, line_calls p.ran.history d.history line d.is);
      left = d.left;
    }

pub plays_stop : (first : SharedSeen) (lines : List Line) (i : ℕ) (line : Line) (old new : SharedSeen) (cause : Cause)
    → i < length lines → line ≡ get_or lines i line → PlaysSoFar first lines i old
    → ((h : History) → IsLeftBy h old → shared_line h line ≡ Err cause) → new ≡ old
    → (z : Zone) (image : List ℕ) → IsLeftBy (just_opened z image) first → StopsAt z image lines new (i + 1) cause
plays_stop first lines i line old new cause below is so_far does same z image l =
    let p = so_far z image l in
    let r = shared_ran z image (take i lines) in
    let now : next_shared r (get_or lines i line) ≡ record p.ran { refused = Some cause } =
    rw (← is) (ap (λ (x : SharedRan). next_shared x line) p.is
    ∙ on_err p.ran p.ran.refused (shared_line p.ran.history line) cause p.none (does p.ran.history p.left)) in
    let all : shared_ran z image lines ≡ record p.ran { refused = Some cause } =
    sym (fold_stuck next_shared (record p.ran { refused = Some cause }) (λ x. refl) (begun z image) lines i line
    below now) in
    record {
      refused = ap (λ (x : SharedRan). x.refused) all;
      count = ap (λ (x : SharedRan). x.count + 1) all ∙ ap (λ n. n + 1) p.count;
      left = subst (λ (x : SharedRan). IsLeftBy x.history new) (sym all)
          (subst (λ (v : SharedSeen). IsLeftBy p.ran.history v) (sym same) p.left);
    }

pub plays_all : (first : SharedSeen) (lines : List Line) (i : ℕ) (v : SharedSeen) → length lines ≤ i
    → PlaysSoFar first lines i v → (z : Zone) (image : List ℕ) → IsLeftBy (just_opened z image) first
    → PlaysAll z image lines v
plays_all first lines i v all so_far z image l =
    let p = so_far z image l in
    let same : shared_ran z image lines ≡ p.ran = ap (shared_ran z image) (sym (take_all lines i all)) ∙ p.is in
    record {
      none = ap (λ (x : SharedRan). x.refused) same ∙ p.none;
      left = subst (λ (x : SharedRan). IsLeftBy x.history v) (sym same) p.left;
    }

pub field_at : (lines : List Line) (i : ℕ) (line : Line) → i < length lines → line ≡ get_or lines i line
    → AllHaveFields lines → HasFields line
field_at [] i line below is h = absurd (omega (arith, below))
field_at (x ∷ xs) zero line below is h = rw is h.0
field_at (x ∷ xs) (suc i) line below is h = field_at xs i line (omega (arith, below)) is h.1
