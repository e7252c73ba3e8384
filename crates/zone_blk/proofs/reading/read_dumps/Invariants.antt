-- The dumps are those of the zones passed over, each inside its zone, and the store is unwritten.
-- For the loop of `read_dumps`.
use Rattle.std.proofs.Common.{◌≡◌, IfSome}
use Rattle.std.specs.List.{All}
use Rattle.blk_spec.specs.Answers.{HasRoom}
use Rattle.zone_blk.specs.Loading.{IsIn}
use Rattle.zone_blk.proofs.Readings.{listed-below}
use Rattle.zone_blk.proofs.reading.read_dumps.Given as goal

-- the dumps of the zones passed over
abbrev pub invariant-loop-index : goal.invariant-loop-index
invariant-loop-index g l = record {
  listed : IfSome (g.M.Load.holds l.initial.store) (λ bs. l.dumps.items ≡ listed-below l.layout bs l.index);
  inside : All (IsIn l.layout) l.dumps.items;
  room : HasRoom l.layout.total (g.M.Load.holds l.store);
  same : g.M.Load.holds l.store ≡ g.M.Load.holds l.initial.store;
  unwritten : g.M.Load.writes l.store ≡ g.M.Load.writes l.initial.store;
  kept : g.M.Load.faults l.store ≡ g.M.Load.faults l.initial.store;
  kept_fails : g.M.Load.read_faults l.store ≡ g.M.Load.read_faults l.initial.store;
}
