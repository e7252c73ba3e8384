-- The lines are those of the text. For `tell_region`.
use Rattle.std.proofs.Common.{subst, List, ℕ}
use Rattle.std.specs.Prelude.{MatchResult}
use Rattle.report_run.specs.Messages.{seen}
use Rattle.report_run.specs.Images.{TellsLayout, IsNotTold}
use Rattle.report_run.proofs.regions.tell_region.Goals as goal

pub returns-clause-told : goal.returns-clause-told
returns-clause-told g c =
    subst (λ (t : List ℕ). MatchResult c.tell_layout.result
    (λ _. TellsLayout c.args.format t (g.O.Sink.given c.args.out.now) (g.O.Sink.given c.tell_layout.new.out)
    (seen (g.E.Sink.given c.args.messages.now.errors) (g.E.Sink.faults c.args.messages.now.errors)
    c.args.messages.now.is_lost)
    (seen (g.E.Sink.given c.tell_layout.new.messages.errors) (g.E.Sink.faults c.tell_layout.new.messages.errors)
    c.tell_layout.new.messages.is_lost))
    (IsNotTold c.args.format t (g.O.Sink.given c.args.out.now) (g.O.Sink.given c.tell_layout.new.out)
    (g.O.Sink.faults c.args.out.now) (g.O.Sink.faults c.tell_layout.new.out)
    (seen (g.E.Sink.given c.args.messages.now.errors) (g.E.Sink.faults c.args.messages.now.errors)
    c.args.messages.now.is_lost)
    (seen (g.E.Sink.given c.tell_layout.new.messages.errors) (g.E.Sink.faults c.tell_layout.new.messages.errors)
    c.tell_layout.new.messages.is_lost))) c.deref.ensures c.tell_layout.ensures.told
