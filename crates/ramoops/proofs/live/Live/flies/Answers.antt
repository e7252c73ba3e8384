-- The flight of the zone at hand is the one of the state that the machine stands for, which is
-- sound. For `Live::flies`.
use Rattle.std.proofs.Common.{is_some, sym, ◌∙◌}
use Rattle.ramoops.proofs.StepStates.{target_shows, held_here}
use Rattle.ramoops.proofs.live.Live.flies.Goals as goal

pub returns-in-Some-clause-flies : goal.returns-in-Some-clause-flies
returns-in-Some-clause-flies c =
    target_shows c.args.self.now c.in-Some.i c.args.zone (sym c.in-Some.ensures.place) c.in-Some.ensures.within.0
    (λ t. is_some t.live.flight) c.is_some.result
    (λ s stands. (held_here _ c.args.self.now c.in-Some.i c.in-Some.ensures.within.0 c.index.result.now c.self.view_is
    c.index.ensures s stands).flies ∙ sym c.is_some.ensures)

pub returns-in-Some-clause-sound : goal.returns-in-Some-clause-sound
returns-in-Some-clause-sound c = rw (← c.self.view_is) c.self.invariant.0

pub returns-in-None-clause-sound : goal.returns-in-None-clause-sound
returns-in-None-clause-sound c = rw (← c.self.view_is) c.self.invariant.0
