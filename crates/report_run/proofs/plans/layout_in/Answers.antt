-- The look at the image's front is one at the image; or a read failed, or memory ran out.
use Rattle.report_run.specs.declared.failures.Failure.{Failure}
use Rattle.report_run.specs.Failures.{IsUnread}
use Rattle.report_run.specs.Messages.{seen}
use Rattle.report_run.proofs.Fronts.{unread}
use Rattle.report_run.proofs.Looks.{looking, may_look}
use Rattle.report_run.proofs.plans.layout_in.Goals as goal

pub returns-in-Err-clause-unfound : goal.returns-in-Err-clause-unfound
returns-in-Err-clause-unfound g c =
    let before = g.M.Load.faults c.args.image.now in
    let now = g.M.Load.faults c.load_front.new.image in
    unread (λ (w : Failure). IsUnread before now w) before now (λ e. e) (λ r. r) c.in-Err.stop c.stop_failure.result
    c.stop_failure.ensures c.in-Err.ensures.err c.in-Err.ensures.counts

pub returns-in-Ok-layout_of-clause-looked : goal.returns-in-Ok-layout_of-clause-looked
returns-in-Ok-layout_of-clause-looked g c =
    looking c.args.known.now c.args.path.now (g.M.Load.holds c.args.image.now)
    (seen (g.E.Sink.given c.args.messages.now.errors) (g.E.Sink.faults c.args.messages.now.errors)
    c.args.messages.now.is_lost)
    (seen (g.E.Sink.given c.layout_of.new.messages.errors) (g.E.Sink.faults c.layout_of.new.messages.errors)
    c.layout_of.new.messages.is_lost)
    c.deref.result.now c.in-Ok.bytes.items c.deref.ensures.value c.in-Ok.ensures.ok.1
    c.in-Ok-layout_of.ensures.looked

pub returns-clause-looked : goal.returns-clause-looked
returns-clause-looked g c =
    may_look c.args.known.now c.args.path.now (g.M.Load.holds c.args.image.now)
    (seen (g.E.Sink.given c.args.messages.now.errors) (g.E.Sink.faults c.args.messages.now.errors)
    c.args.messages.now.is_lost)
    (seen (g.E.Sink.given c.layout_of.new.messages.errors) (g.E.Sink.faults c.layout_of.new.messages.errors)
    c.layout_of.new.messages.is_lost)
    c.deref.result.now c.in-Ok.bytes.items c.deref.ensures.value c.in-Ok.ensures.ok.1
    c.in-Err-layout_of.ensures.looked
