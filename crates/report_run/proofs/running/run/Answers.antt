-- One file after another. For `run`.
use Rattle.std.proofs.Common.{◌∙◌, sym}
use Rattle.report_run.proofs.RunSteps.{one_run, cut_run, all_run}
use Rattle.report_run.proofs.running.run.Goals as goal

pub loop-i-preserved : goal.loop-i-preserved
loop-i-preserved g c = (
  rw c.with_end-so_far.ensures
      (one_run c.args.asked.now (g.I.Images.content c.args.images.now) c.args.files.now _ _ c.loop-i.i
      c.index-files-i.result (g.I.Images.content c.loop-i.images) _ _ _ _ c.loop-i.so_far c.report_file-end.result
      c.loop-i-test.true c.index-files-i.is c.loop-i.invariant.1 c.report_file-end.ensures.step
      (sym c.ends_run.ensures ∙ c.if-ends_run.false) c.loop-i.invariant.0),
  c.report_file-end.ensures.same ∙ c.loop-i.invariant.1,
)

pub returns-then-ends_run : goal.returns-then-ends_run
returns-then-ends_run g c =
    cut_run c.args.asked.now (g.I.Images.content c.args.images.now) c.args.files.now _ _ c.loop-i.i
    c.index-files-i.result (g.I.Images.content c.loop-i.images) _ _ _ _ c.loop-i.so_far c.report_file-end.result
    c.loop-i-test.true c.index-files-i.is c.loop-i.invariant.1 c.report_file-end.ensures.step
    (sym c.ends_run.ensures ∙ c.if-ends_run.true) c.loop-i.invariant.0

pub returns : goal.returns
returns g c =
    all_run c.args.asked.now (g.I.Images.content c.args.images.now) c.args.files.now _ _ c.loop-i.i _ _ c.loop-i.so_far
    c.loop-i-test.false c.loop-i.invariant.0
