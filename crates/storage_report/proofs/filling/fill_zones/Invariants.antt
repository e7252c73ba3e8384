-- The zones so far are in the copy. For the loop of `fill_zones`.
use Rattle.std.proofs.Common.{◌≡◌, length, take}
use Rattle.std.specs.Prelude.{IfSome}
use Rattle.storage_report.specs.Copies.{HasZones}
use Rattle.storage_report.proofs.filling.fill_zones.Given as goal

abbrev pub invariant-loop-zone : goal.invariant-loop-zone
invariant-loop-zone g l = record {
  held : g.M.Load.holds l.image ≡ g.M.Load.holds l.initial.image;
  faults : g.M.Load.faults l.image ≡ g.M.Load.faults l.initial.image;
  len : length l.copy ≡ length l.initial.copy;
  has : IfSome (g.M.Load.holds l.initial.image)
      (λ bs. HasZones l.machine (take l.zone-index l.zones) (take (length l.initial.copy) bs) l.copy);
}
