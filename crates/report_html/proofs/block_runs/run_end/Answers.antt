-- The run ends before the first block that reads otherwise
use Rattle.std.proofs.Common.{◌≡◌, true, false, arith}
use Rattle.zone_spec.specs.declared.PartState.TheVariants.{Read}
use Rattle.report_html.proofs.Blocks.{alike-next, ends-before, ends-last}
use Rattle.report_html.proofs.block_runs.run_end.Goals as goal

pub returns-then-not-is_alike-clause-run : goal.returns-then-not-is_alike-clause-run
returns-then-not-is_alike-clause-run c = λ s here.
    let other : c.is_alike.result ≡ false = cc in
    ends-before c.args.blocks.now c.args.from c.loop-to.to s (Read 0) c.is_alike.result c.requires c.loop-to-test.true
    here (c.loop-to.invariant.alike s here) c.is_alike.ensures other

pub loop-to-preserved : goal.loop-to-preserved
loop-to-preserved c = record {
  on = omega arith;
  within = omega arith;
  alike = λ s here.
      let same : c.is_alike.result ≡ true = cc in
      alike-next c.args.blocks.now c.args.from c.loop-to.to s (Read 0) c.is_alike.result c.requires
      c.loop-to-test.true here (c.loop-to.invariant.alike s here) c.is_alike.ensures same;
}

pub returns-clause-run : goal.returns-clause-run
returns-clause-run c = λ s here.
    ends-last c.args.blocks.now c.args.from c.loop-to.to s c.requires
    (let past = c.loop-to-test.false in let within = c.loop-to.invariant.within in omega (arith, past, within)) here
    (c.loop-to.invariant.alike s here)
