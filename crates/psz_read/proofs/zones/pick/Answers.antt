-- The zone is in the first run that the index does not pass. For `pick`.
use Rattle.std.proofs.Common.{◌≡◌, ℕ, ◌-◌, ◌++◌, arith, List}
use Rattle.std.specs.Prelude.{slice_get}
use Rattle.psz_spec.specs.declared.Zone.{Zone}
use Rattle.psz_read.specs.Runs.{run_zones}
use Rattle.psz_read.proofs.RunZones.{pick_first, pick_rest}
use Rattle.psz_read.proofs.zones.pick.Goals as goal

pub returns-then-index-a : goal.returns-then-index-a
returns-then-index-a c =
    let zs : List Zone = run_zones c.args.b.now ++ (run_zones c.args.c.now ++ run_zones c.args.d.now) in
    let e : slice_get (run_zones c.args.a.now) c.args.index ≡ slice_get (run_zones c.args.a.now ++ zs) c.args.index =
    pick_first c.args.a.now zs c.args.index (omega arith) in
    cc

pub returns-then-past_a-b : goal.returns-then-past_a-b
returns-then-past_a-b c =
    let ys : List Zone = run_zones c.args.c.now ++ run_zones c.args.d.now in
    let i : ℕ = c.args.index - c.args.a.now.count in
    let e : slice_get (run_zones c.args.b.now) i ≡ slice_get (run_zones c.args.b.now ++ ys) i =
    pick_first c.args.b.now ys i (omega arith) in
    let f : slice_get (run_zones c.args.b.now ++ ys) i
    ≡ slice_get (run_zones c.args.a.now ++ (run_zones c.args.b.now ++ ys)) c.args.index =
    pick_rest c.args.a.now (run_zones c.args.b.now ++ ys) c.args.index (omega arith) in
    cc

pub returns-then-past_b-c : goal.returns-then-past_b-c
returns-then-past_b-c c =
    let xs : List Zone = run_zones c.args.d.now in
    let ys : List Zone = run_zones c.args.c.now ++ xs in
    let i : ℕ = c.args.index - c.args.a.now.count in
    let j : ℕ = i - c.args.b.now.count in
    let e : slice_get (run_zones c.args.c.now) j ≡ slice_get ys j =
    pick_first c.args.c.now xs j (omega arith) in
    let f : slice_get ys j ≡ slice_get (run_zones c.args.b.now ++ ys) i =
    pick_rest c.args.b.now ys i (omega arith) in
    let g : slice_get (run_zones c.args.b.now ++ ys) i
    ≡ slice_get (run_zones c.args.a.now ++ (run_zones c.args.b.now ++ ys)) c.args.index =
    pick_rest c.args.a.now (run_zones c.args.b.now ++ ys) c.args.index (omega arith) in
    cc

pub returns : goal.returns
returns c =
    let xs : List Zone = run_zones c.args.d.now in
    let ys : List Zone = run_zones c.args.c.now ++ xs in
    let i : ℕ = c.args.index - c.args.a.now.count in
    let j : ℕ = i - c.args.b.now.count in
    let e : slice_get xs (j - c.args.c.now.count) ≡ slice_get ys j =
    pick_rest c.args.c.now xs j (omega arith) in
    let f : slice_get ys j ≡ slice_get (run_zones c.args.b.now ++ ys) i =
    pick_rest c.args.b.now ys i (omega arith) in
    let g : slice_get (run_zones c.args.b.now ++ ys) i
    ≡ slice_get (run_zones c.args.a.now ++ (run_zones c.args.b.now ++ ys)) c.args.index =
    pick_rest c.args.a.now (run_zones c.args.b.now ++ ys) c.args.index (omega arith) in
    cc
