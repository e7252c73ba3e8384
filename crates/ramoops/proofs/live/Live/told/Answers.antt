-- The list at hand is the told list of the state that the machine stands for, and the zone is in
-- ring form for it. For `Live::told`.
use Rattle.std.proofs.Common.{sym}
use Rattle.ramoops.proofs.StepStates.{target_shows, held_here, ring_of}
use Rattle.ramoops.proofs.live.Live.told.Goals as goal

pub returns-in-Some-clause-told : goal.returns-in-Some-clause-told
returns-in-Some-clause-told c =
    target_shows c.args.self.now c.in-Some.i c.args.zone (sym c.in-Some.ensures.place) c.in-Some.ensures.within.0
    (λ t. t.live.told) c.index.result.now.told.items
    (λ s stands. (let h = held_here _ c.args.self.now c.in-Some.i c.in-Some.ensures.within.0 c.index.result.now
    c.self.view_is c.index.ensures s stands in h.told))

pub returns-in-Some-clause-ring : goal.returns-in-Some-clause-ring
returns-in-Some-clause-ring c i z held place ez eh =
    ring_of _ c.args.self.now c.in-Some.i i z c.index.result.now held _ c.self.view_is c.self.invariant.0
    (sym c.in-Some.ensures.place) place ez eh c.index.ensures
