-- The phases entered so far had no store: what is left and the call are as before. For the loop of
-- `settle`.
use Rattle.std.proofs.Common.{◌≡◌, ℕ, List}
use Rattle.zone_spec.specs.Parts.{AreBytes}
use Rattle.store_steps.specs.Flying.{flying, IsSameCall}
use Rattle.store_steps.specs.Phases.{IsSound, IsPlaced}
use Rattle.store_steps.specs.Machine.{stores_left, count_left, phases_left}
use Rattle.store_steps.proofs.steps.Steps.settle.Given as goal

abbrev pub invariant-loop-self : goal.invariant-loop-self
invariant-loop-self l = record {
  sound : IsSound (flying l.self l.line l.payload);
  left : (image : List ℕ) → AreBytes image
      → stores_left (flying l.self l.line l.payload) image ≡ stores_left (flying l.initial.self l.line l.payload) image;
  count : count_left (flying l.self l.line l.payload) ≡ count_left (flying l.initial.self l.line l.payload);
  same : IsSameCall (flying l.initial.self l.line l.payload) (flying l.self l.line l.payload);
  made : l.self.made ≡ l.initial.self.made;
  kind : l.self.kind ≡ l.initial.self.kind;
  placed : IsPlaced (flying l.initial.self l.line l.payload) → IsPlaced (flying l.self l.line l.payload);
}

abbrev pub decreases-loop-self : goal.decreases-loop-self
decreases-loop-self l = phases_left (flying l.self l.line l.payload) l.self.place.phase
