-- The zeros up to `at` are written and the store has its size. For the loop of `write_zeros`.
use Rattle.std.proofs.Common.{◌≡◌, ◌≤◌, ◌-◌}
use Rattle.blk_spec.specs.Answers.{HasRoom, device}
use Rattle.zone_blk.proofs.Sequences.{ZerosMade}
use Rattle.zone_blk.proofs.writing.write_zeros.Given as goal

-- the pieces of the zeros up to here are written
abbrev pub invariant-pieces : goal.invariant-pieces
invariant-pieces g l =
    let a = device (g.M.Load.holds l.initial.store) (g.M.Load.writes l.initial.store)
    (g.M.Load.read_faults l.initial.store) in
    let b = device (g.M.Load.holds l.store) (g.M.Load.writes l.store) (g.M.Load.read_faults l.store) in
    record {
      from : l.from ≤ l.at;
      inside : l.at ≤ l.end;
      room : HasRoom l.end (g.M.Load.holds l.store);
      made : ZerosMade 65536 l.from l.at l.end l.initial.cut l.cut a b;
      kept : g.M.Load.faults l.store ≡ g.M.Load.faults l.initial.store;
    }

abbrev pub decreases-pieces : goal.decreases-pieces
decreases-pieces g l = l.end - l.at
