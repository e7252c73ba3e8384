-- The first `done` bytes of the run stand in `out`, and the rest of `out` is as before. For the
-- loop of `copy_run`.
use Rattle.std.proofs.Common.{◌≡◌, ◌≤◌, ◌+◌, ◌-◌, ◌++◌, take, drop}
use Rattle.zone_boot.specs.Reads.{bytes_at}
use Rattle.zone_boot.proofs.copying.copy_run.Given as goal

abbrev pub invariant-loop-done : goal.invariant-loop-done
invariant-loop-done l = record {
  most : l.done ≤ l.n;
  copied : l.out ≡ take l.at l.fn.out ++ bytes_at l.zone l.image l.place l.done ++ drop (l.at + l.done) l.fn.out;
}

abbrev pub decreases-loop-done : goal.decreases-loop-done
decreases-loop-done l = l.n - l.done
