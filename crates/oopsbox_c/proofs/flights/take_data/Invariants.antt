-- What was gathered is handed out next, of data alone: at most four stores, not past `until`, and
-- the flight stays one of its call. For the loop of `take_data`.
use Rattle.std.proofs.Common.{◌≡◌, ◌-◌, ◌≤◌, List, ℕ}
use Rattle.zone_spec.specs.Stores.{Store as DefinedStore}
use Rattle.store_steps.specs.Flying.{Flying, flying}
use Rattle.store_steps.specs.Machine.{IsKept}
use Rattle.oopsbox_c.specs.Gathered.{IsGathered, IsComing, HasGone}
use Rattle.oopsbox_c.proofs.flights.take_data.Given as goal

abbrev pub invariant-loop-steps : goal.invariant-loop-steps
invariant-loop-steps l = record {
  kept : IsKept (flying l.steps l.line l.payload);
  gathered : (f : Flying) (image : List ℕ) → IsGathered f image l.line l.payload l.initial.steps l.initial.stores
      → IsGathered f image l.line l.payload l.steps l.stores;
  coming : (all : List DefinedStore) (image : List ℕ)
      → IsComing all image l.line l.payload l.initial.steps l.initial.stores
      → IsComing all image l.line l.payload l.steps l.stores;
  most : l.steps.made ≤ l.until;
  least : l.initial.steps.made ≤ l.steps.made;
  room : l.stores.count ≤ 4;
  gone : HasGone l.initial.steps l.steps l.initial.stores l.stores;
  kind : l.steps.kind ≡ l.initial.steps.kind;
}

abbrev pub decreases-loop-steps : goal.decreases-loop-steps
decreases-loop-steps l = l.until - l.steps.made
