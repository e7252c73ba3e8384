-- A zone of a run, or past its end. For `run_at`.
use Rattle.std.proofs.Common.{◌≡◌, arith}
use Rattle.std.specs.Prelude.{slice_get, Some, None}
use Rattle.psz_read.specs.Runs.{run_zones, run_zone}
use Rattle.psz_read.proofs.RunZones.{run_inside, run_past}
use Rattle.psz_read.proofs.zones.run_at.Goals as goal

pub returns-then-index-run : goal.returns-then-index-run
returns-then-index-run c =
    let e : slice_get (run_zones c.args.run.now) c.args.index ≡ Some (run_zone c.args.run.now c.args.index) =
    run_inside c.args.run.now c.args.index (omega arith) in
    cc

pub returns-else-index-run : goal.returns-else-index-run
returns-else-index-run c =
    let e : slice_get (run_zones c.args.run.now) c.args.index ≡ None =
    run_past c.args.run.now c.args.index (omega arith) in
    cc
