-- The stores left of the flight at hand are those of the state that the machine stands for. For
-- `Live::left`.
use Rattle.std.proofs.Common.{sym, ◌∙◌}
use Rattle.machine_spec.specs.ZoneCalls.{stores_left}
use Rattle.ramoops.proofs.StepStates.{target_shows, left_here}
use Rattle.ramoops.proofs.live.Live.left.Goals as goal

pub returns-in-Some-clause-left : goal.returns-in-Some-clause-left
returns-in-Some-clause-left c =
    target_shows c.args.self.now c.in-Some.i c.args.zone (sym c.in-Some.ensures.place) c.in-Some.ensures.within.0
    (λ t. stores_left t.live.flight t.zone) c.stores_left.result
    (λ s stands. left_here _ c.args.self.now c.in-Some.i c.in-Some.ensures.within.0 c.index.result.now c.self.view_is
    c.index.ensures s stands ∙ sym c.stores_left.ensures)
