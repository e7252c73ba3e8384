-- A search that stops ends the report. For `report`.
use Rattle.std.proofs.Common.{rules}
use Rattle.report_tool.specs.Images.{IsNotReported}
use Rattle.report_tool.proofs.BetterWords.{stopped}
use Rattle.report_tool.proofs.images.report.Goals as goal

pub returns-in_err-better-clause-reported : goal.returns-in_err-better-clause-reported
returns-in_err-better-clause-reported g c =
    let h : IsNotReported c.args.format c.args.path.now c.args.plan.now c.in_err-better.field-0.0
    (g.M.Load.holds c.args.image.now) (g.M.Load.faults c.args.image.now) (g.M.Load.faults c.better_words.new.image)
    (g.W.Sink.given c.args.out.now) (g.W.Sink.given c.args.out.now) (g.W.Sink.faults c.args.out.now)
    (g.W.Sink.faults c.args.out.now) =
    stopped c.args.format c.args.path.now c.args.plan.now (g.M.Load.holds c.args.image.now)
    (g.W.Sink.given c.args.out.now) _ c.in_err-better.field-0.0 (g.M.Load.faults c.args.image.now)
    (g.M.Load.faults c.read.new.image) (g.M.Load.faults c.better_words.new.image) (g.W.Sink.faults c.args.out.now)
    c.in_ok-read.ensures.counts c.in_err-better.ensures.err in
    search rules
