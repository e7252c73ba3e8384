-- What was gathered is parity handed out next, and leaves header and data as they were: at most
-- four stores, not past `until`. For the loop of `take_parities`.
use Rattle.std.proofs.Common.{◌≡◌, ◌-◌, ◌≤◌, ℕ, List}
use Rattle.zone_spec.specs.Stores.{Store as DefinedStore, after_stores}
use Rattle.store_steps.specs.Flying.{Flying, flying}
use Rattle.store_steps.specs.Machine.{IsKept, IsParity, IsSameData}
use Rattle.oopsbox_c.specs.Stores.{stores_in}
use Rattle.oopsbox_c.specs.Gathered.{IsGathered, IsComing, HasGone}
use Rattle.oopsbox_c.proofs.flights.take_parities.Given as goal

abbrev pub invariant-loop-steps : goal.invariant-loop-steps
invariant-loop-steps l = record {
  kept : IsKept (flying l.steps l.line l.payload);
  gathered : (f : Flying) (now : List ℕ) → IsSameData l.initial.steps.zone now l.image
      → IsGathered f now l.line l.payload l.initial.steps l.initial.stores
      → IsGathered f now l.line l.payload l.steps l.stores;
  coming : (all : List DefinedStore) → IsComing all l.image l.line l.payload l.initial.steps l.initial.stores
      → IsComing all l.image l.line l.payload l.steps l.stores;
  idle : (IsParity l.initial.steps.place.phase → ⊥)
      → (l.steps ≡ l.initial.steps) × (l.stores ≡ l.initial.stores);
  zone : l.steps.zone ≡ l.initial.steps.zone;
  apart : (now : List ℕ) → IsSameData l.steps.zone (after_stores now (stores_in l.stores l.line l.payload)) now;
  most : l.steps.made ≤ l.until;
  least : l.initial.steps.made ≤ l.steps.made;
  room : l.stores.count ≤ 4;
  gone : HasGone l.initial.steps l.steps l.initial.stores l.stores;
  kind : l.steps.kind ≡ l.initial.steps.kind;
}

abbrev pub decreases-loop-steps : goal.decreases-loop-steps
decreases-loop-steps l = l.until - l.steps.made
