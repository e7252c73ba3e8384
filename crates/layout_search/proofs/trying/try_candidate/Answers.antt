-- A candidate without a layout is settled. One that has a layout is judged if it is not left out,
-- and the best stays sound. For `try_candidate`.
use Rattle.std.proofs.Common.{sym, subst}
use Rattle.layout_search.specs.Tried.{IsSound}
use Rattle.layout_search.proofs.BestSoFar.{no_layout}
use Rattle.layout_search.proofs.trying.try_candidate.Goals as goal

pub returns-in_default-clause-settled : goal.returns-in_default-clause-settled
returns-in_default-clause-settled c = λ known.
    no_layout known c.args.image.now c.args.aim.now c.args.c.now c.args.state.now
    (rw c.in_default.is at c.in_ok-zones.ensures)

pub returns-clause-sound : goal.returns-clause-sound
returns-clause-sound c = λ known family sound.
    let laid = rw c.in-Some.is at c.in_ok-zones.ensures in
    subst (IsSound known c.args.image.now c.args.aim.now.besides) (sym c.after.ensures.best)
    (c.judge-best.ensures.sound known c.args.aim.now.besides (family laid.has)
    (c.is_left_out.ensures.no c.if-is_left_out.false) sound)
