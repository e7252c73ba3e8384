-- A flight that begins stands for the call begun
use Rattle.std.proofs.Common.{◌≡◌, ℕ, ◌<◌, Bool, true, false, cond, ◌==◌, List, length, refl, sym, ap, ◌∙◌, subst}
use Rattle.std.proofs.Common.{arith, Some}
use Rattle.std.proofs.lemmas.Bool.Decides.{nat_tests}
use Rattle.zone_spec.specs.declared.Zone.{Zone}
use Rattle.zone_spec.specs.Told.{Call}
use Rattle.zone_spec.specs.Calls.{call_stores}
use Rattle.machine_spec.specs.States.{LiveZone}
use Rattle.machine_spec.specs.ZoneCalls.{begun}
use Rattle.store_steps.specs.Flying.{Flying}
use Rattle.store_steps.specs.Counts.{total_of}
use Rattle.store_steps.specs.Machine.{StandsFor}
use Rattle.ramoops.specs.declared.zones.HeldZone.{HeldZone}
use Rattle.ramoops.specs.LiveSeen.{StandsForZone}

-- a flight at its begin on a zone's bytes
pub record Begins (z : Zone) (bytes : List ℕ) (call : Call) (seen : Flying) : Type 0 where
  pub zone : seen.zone ≡ z
  pub of_call : seen.call ≡ call
  pub made : seen.made ≡ 0
  pub stands : StandsFor seen bytes bytes

total_is : (z : Zone) (bytes : List ℕ) (call : Call) (seen : Flying) → Begins z bytes call seen
    → total_of seen ≡ length (call_stores z call bytes)
total_is z bytes call seen b =
    b.stands.total ∙ ap (λ (y : Zone). length (call_stores y seen.call bytes)) b.zone
    ∙ ap (λ (c : Call). length (call_stores z c bytes)) b.of_call

-- stores are left: the flight stands
pub begun_some : (z : Zone) (bytes : List ℕ) (call : Call) (seen : Flying) (old new : HeldZone) (live : LiveZone)
    → Begins z bytes call seen → 0 < total_of seen
    → new ≡ record { told = old.told; flight = Some seen } → StandsForZone z bytes old live
    → StandsForZone z bytes new (begun z call live)
begun_some z bytes call seen old new live b some e stands =
    subst (λ (h : HeldZone). StandsForZone z bytes h (begun z call live)) (sym e)
    (by (length (call_stores z call live.image) == 0) refl)
  where
    counted : total_of seen ≡ length (call_stores z call live.image)
    counted = total_is z bytes call seen b ∙ ap (λ (im : List ℕ). length (call_stores z call im)) (sym stands.image)

    by : (t : Bool) → (length (call_stores z call live.image) == 0) ≡ t
        → StandsForZone z bytes (record { told = old.told; flight = Some seen })
        (cond t live (record live { flight = Some (record { image = live.image; call = call; made = 0 }) }))
    by true h = absurd (let c = counted in grind (arith, nat_tests))
    by false h = record {
      image = stands.image;
      told = stands.told;
      flight = record {
        zone = b.zone;
        call = b.of_call;
        made = b.made;
        image = subst (λ (im : List ℕ). StandsFor seen bytes im) (sym stands.image) b.stands;
      };
    }

-- no store is left: the call is finished
pub begun_none : (z : Zone) (bytes : List ℕ) (call : Call) (seen : Flying) (old new : HeldZone) (live : LiveZone)
    → Begins z bytes call seen → total_of seen ≡ 0
    → new ≡ old → StandsForZone z bytes old live → StandsForZone z bytes new (begun z call live)
begun_none z bytes call seen old new live b none e stands =
    subst (λ (h : HeldZone). StandsForZone z bytes h (begun z call live)) (sym e)
    (by (length (call_stores z call live.image) == 0) refl)
  where
    counted : total_of seen ≡ length (call_stores z call live.image)
    counted = total_is z bytes call seen b ∙ ap (λ (im : List ℕ). length (call_stores z call im)) (sym stands.image)

    by : (t : Bool) → (length (call_stores z call live.image) == 0) ≡ t
        → StandsForZone z bytes old (cond t live (record live
        { flight = Some (record { image = live.image; call = call; made = 0 }) }))
    by true h = stands
    by false h = absurd (let c = counted in grind (arith, nat_tests))
