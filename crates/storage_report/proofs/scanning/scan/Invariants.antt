-- The headers so far, and the last piece. For the loop of `scan`.
use Rattle.std.proofs.Common.{◌≡◌}
use Rattle.storage_report.specs.Pieces.{IsPieceOf}
use Rattle.storage_report.proofs.Pieces.{IsSeenTo}
use Rattle.storage_report.proofs.scanning.scan.Given as goal

abbrev pub invariant-loop-block : goal.invariant-loop-block
invariant-loop-block g l = record {
  held : g.M.Load.holds l.image ≡ g.M.Load.holds l.initial.image;
  faults : g.M.Load.faults l.image ≡ g.M.Load.faults l.initial.image;
  piece : IsPieceOf (g.M.Load.holds l.initial.image) l.piece;
  seen : IsSeenTo (g.M.Load.holds l.initial.image) l.total l.block l.seen;
}
