-- The stores of a flight that are made at once
use Rattle.std.proofs.Common.{ℕ, Option, None, [], ap, sym, subst}
use Rattle.machine_spec.specs.ZoneCalls.{stepped}
use Rattle.circular_buffer.specs.Buffer.{Buffer}
use Rattle.store_steps.specs.Flying.{Flying}
use Rattle.zone_spec.specs.Told.{Call, told_after}
use Rattle.prz_region.specs.CutRegion.{span}
use Rattle.prz_region.proofs.Cuts.{stored-none}
use Rattle.ramoops.specs.LiveSeen.{StandsForZone, StandsForSome}
use Rattle.ramoops.specs.Storing.{CanStore, HasParity}
use Rattle.ramoops.proofs.FlightStores.{Steps, stored, ended, no_last, last_is, next_made, none_made}
use Rattle.ramoops.proofs.zones.advance.Goals as goal
use Rattle.ramoops.proofs.zones.advance.Goals.{After-advance}

-- the stores that were made
steps : (c : After-advance) → Steps c.args.count c.in-Some.flight c.advance.new.self
    (span c.args.spans.now c.args.i) (span c.advance.new.spans c.args.i)
steps c = record {
  left = (subst (CanStore (span c.args.spans.now c.args.i)) c.in-Some.is c.requires.can).0;
  same = c.advance.ensures.same;
  made = c.advance.ensures.made;
  stands = c.advance.ensures.stands;
}

pub advance-requires-clause-coder : goal.advance-requires-clause-coder
advance-requires-clause-coder c = λ k e. subst (HasParity k.now) c.in-Some.is (c.requires.coder k e)

pub returns-in_default-advance-clause-stored : goal.returns-in_default-advance-clause-stored
returns-in_default-advance-clause-stored c zone live room stands =
    stored c.args.count zone _ _ _ _ (steps (goal.at.returns-in_default-advance-clause-stored c).After-advance)
    c.args.held.now.told live
    (subst (λ (o : Option Flying). StandsForZone zone (span c.args.spans.now c.args.i)
    (record { told = c.args.held.now.told; flight = o }) live) c.in-Some.is stands)
    (λ e. c.in_default-advance.not-Done (c.advance.ensures.done.1 e))

pub returns-in_default-advance-clause-last : goal.returns-in_default-advance-clause-last
returns-in_default-advance-clause-last c zone live stands =
    no_last c.args.count zone _ _ _ _ (steps (goal.at.returns-in_default-advance-clause-last c).After-advance) live
    (subst (λ (o : Option Flying). StandsForSome zone (span c.args.spans.now c.args.i) o live.flight)
    c.in-Some.is stands.flight)
    (λ e. c.in_default-advance.not-Done (c.advance.ensures.done.1 e))

pub returns-clause-stored : goal.returns-clause-stored
returns-clause-stored c zone live room stands =
    let h = c.args.held.now.told in
    subst (λ (b : Buffer ℕ). StandsForZone zone (span c.advance.new.spans c.args.i) (record { told = b; flight = None })
    (stepped zone c.args.count live)) (sym c.tell.ensures)
    (ended c.args.count zone _ _ _ _ (steps (goal.at.returns-clause-stored c).After-advance) h _ live room
    (subst (λ (o : Option Flying). StandsForZone zone (span c.args.spans.now c.args.i)
    (record { told = h; flight = o }) live) c.in-Some.is stands)
    (c.advance.ensures.done.0 c.in-Done.is) (ap (λ (k : Call). told_after h.capacity k h.items) c.call.ensures))

pub returns-clause-last : goal.returns-clause-last
returns-clause-last c zone live stands =
    last_is c.args.count zone _ _ _ _ (steps (goal.at.returns-clause-last c).After-advance) live _
    (subst (λ (o : Option Flying). StandsForSome zone (span c.args.spans.now c.args.i) o live.flight)
    c.in-Some.is stands.flight)
    (c.advance.ensures.done.0 c.in-Done.is) c.kind-kind.ensures

pub returns-in_default-advance-clause-others : goal.returns-in_default-advance-clause-others
returns-in_default-advance-clause-others c =
    record { stores = c.advance.ensures.count.stores; made = c.advance.ensures.count.made }

pub returns-clause-others : goal.returns-clause-others
returns-clause-others c =
    record { stores = c.advance.ensures.count.stores; made = c.advance.ensures.count.made }

pub returns-in_default-advance-clause-stores : goal.returns-in_default-advance-clause-stores
returns-in_default-advance-clause-stores c zone live stands =
    next_made zone c.args.count c.args.i c.args.spans.now c.advance.new.spans c.in-Some.flight live.flight
    (subst (λ (o : Option Flying). StandsForSome zone (span c.args.spans.now c.args.i) o live.flight)
    c.in-Some.is stands.flight) c.advance.ensures.stores

pub returns-clause-stores : goal.returns-clause-stores
returns-clause-stores c zone live stands =
    next_made zone c.args.count c.args.i c.args.spans.now c.advance.new.spans c.in-Some.flight live.flight
    (subst (λ (o : Option Flying). StandsForSome zone (span c.args.spans.now c.args.i) o live.flight)
    c.in-Some.is stands.flight) c.advance.ensures.stores

pub returns-in_default-clause-others : goal.returns-in_default-clause-others
returns-in_default-clause-others c =
    record { stores = []; made = sym (stored-none c.args.spans.now c.args.i) }

pub returns-in_default-clause-stores : goal.returns-in_default-clause-stores
returns-in_default-clause-stores c zone live stands =
    none_made zone c.args.count c.args.i c.args.spans.now c.args.held.now.flight live.flight
    c.in_default.not-Some stands.flight
