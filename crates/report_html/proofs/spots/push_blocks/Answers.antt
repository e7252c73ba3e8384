-- Each run is looked at whole
use Rattle.std.proofs.Common.{◌++◌, get_or, arith}
use Rattle.std.specs.Prelude.{flat_map}
use Rattle.std.proofs.lemmas.Option.{slice_get-get_or}
use Rattle.zone_spec.specs.declared.PartState.{PartState}
use Rattle.zone_spec.specs.declared.PartState.TheVariants.{Read}
use Rattle.report_html.specs.Pictures.{runs}
use Rattle.report_html.specs.Spots.{run_spots}
use Rattle.report_html.proofs.Blocks.{run-more, runs-done}
use Rattle.report_html.proofs.spots.push_blocks.Goals as goal

pub loop-from-preserved : goal.loop-from-preserved
loop-from-preserved c =
    let blocks = c.args.blocks.now in
    let s : PartState = get_or blocks c.loop-from.from (Read 0) in
    record {
      within = c.run_end-to.ensures.within;
      left = run-more (run_spots c.args.zone.now) blocks c.loop-from.from c.run_end-to.result s c.loop-from.spots.items
          c.push_unclean.new.spots.items
          (c.args.spots.now.items ++ flat_map (run_spots c.args.zone.now) (runs 0 blocks))
          (c.run_end-to.ensures.run s (slice_get-get_or blocks c.loop-from.from (Read 0) c.loop-from-test.true))
          c.in_ok-push_unclean.ensures c.loop-from.invariant.left;
    }

pub returns : goal.returns
returns c =
    runs-done (run_spots c.args.zone.now) c.args.blocks.now c.loop-from.from c.loop-from.spots.items
    (c.args.spots.now.items ++ flat_map (run_spots c.args.zone.now) (runs 0 c.args.blocks.now))
    (let past = c.loop-from-test.false in omega (arith, past)) c.loop-from.invariant.left
