-- The stores so far are the next of the same call, in one span, and the flight stands for its bytes. For
-- the loop of `Progress::make_stores`.
use Rattle.std.proofs.Common.{◌≡◌, ℕ, ◌+◌, ◌-◌, ◌<◌, ◌≤◌, List, length, take, drop}
use Rattle.prz_region.specs.CutRegion.{span, stored}
use Rattle.rs_encode.specs.Lanes.{IsLent}
use Rattle.store_steps.specs.Flying.{IsSameCall}
use Rattle.store_steps.specs.Machine.{StandsFor}
use Rattle.zone_spec.specs.Calls.{call_stores}
use Rattle.prz_write.specs.Made.{HasStored}
use Rattle.prz_write.specs.Seen.{seen, IsHeld}
use Rattle.prz_write.proofs.progress.Progress.make_stores.Given as goal

abbrev pub invariant-stores : goal.invariant-stores
invariant-stores l = record {
  held : IsHeld l.self;
  table : IsLent l.self.steps.zone.parity l.table;
  same : IsSameCall (seen l.initial.self) (seen l.self);
  made : l.self.steps.made + l.left ≡ l.initial.self.steps.made + l.count;
  stands : (before : List ℕ) → StandsFor (seen l.initial.self) (span l.initial.spans l.i) before
      → StandsFor (seen l.self) (span l.spans l.i) before;
  stores : (before : List ℕ) → StandsFor (seen l.initial.self) (span l.initial.spans l.i) before
      → l.spans ≡ stored l.initial.spans l.i (take (l.self.steps.made - l.initial.self.steps.made)
      (drop l.initial.self.steps.made (call_stores l.initial.self.steps.zone (seen l.initial.self).call before)));
  count : HasStored l.i (l.self.steps.made - l.initial.self.steps.made) l.initial.spans l.spans;
  most : l.initial.self.steps.made ≤ l.self.steps.made;
  has : l.i < length l.spans.spans;
  len : length (span l.spans l.i) ≡ length (span l.initial.spans l.i);
}

abbrev pub decreases-stores : goal.decreases-stores
decreases-stores l = l.left
