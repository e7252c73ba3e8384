-- What is told of the search is told of the image, which holds what it held.
use Rattle.std.proofs.Common.{inr}
use Rattle.report_run.specs.Messages.{seen}
use Rattle.report_run.proofs.Looks.{looking_still}
use Rattle.report_run.proofs.plans.found_plan.Goals as goal

pub returns-in_default-2-clause-looked : goal.returns-in_default-2-clause-looked
returns-in_default-2-clause-looked g c =
    inr (looking_still c.args.known.now c.args.path.now (g.M.Load.holds c.args.image.now)
    (seen (g.E.Sink.given c.args.messages.now.errors) (g.E.Sink.faults c.args.messages.now.errors)
    c.args.messages.now.is_lost)
    (seen (g.E.Sink.given c.layout_in.new.messages.errors) (g.E.Sink.faults c.layout_in.new.messages.errors)
    c.layout_in.new.messages.is_lost)
    (g.M.Load.holds c.size.new.self) c.size.ensures.same c.in_ok-found.ensures.looked)

pub returns-in-Ok-plan_found-clause-looked : goal.returns-in-Ok-plan_found-clause-looked
returns-in-Ok-plan_found-clause-looked g c =
    looking_still c.args.known.now c.args.path.now (g.M.Load.holds c.args.image.now)
    (seen (g.E.Sink.given c.args.messages.now.errors) (g.E.Sink.faults c.args.messages.now.errors)
    c.args.messages.now.is_lost)
    (seen (g.E.Sink.given c.layout_in.new.messages.errors) (g.E.Sink.faults c.layout_in.new.messages.errors)
    c.layout_in.new.messages.is_lost)
    (g.M.Load.holds c.size.new.self) c.size.ensures.same c.in_ok-found.ensures.looked

pub returns-in-Err-clause-looked : goal.returns-in-Err-clause-looked
returns-in-Err-clause-looked g c =
    inr (looking_still c.args.known.now c.args.path.now (g.M.Load.holds c.args.image.now)
    (seen (g.E.Sink.given c.args.messages.now.errors) (g.E.Sink.faults c.args.messages.now.errors)
    c.args.messages.now.is_lost)
    (seen (g.E.Sink.given c.layout_in.new.messages.errors) (g.E.Sink.faults c.layout_in.new.messages.errors)
    c.layout_in.new.messages.is_lost)
    (g.M.Load.holds c.size.new.self) c.size.ensures.same c.in_ok-found.ensures.looked)
