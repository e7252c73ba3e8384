-- A ticket is open exactly when a seat has it. For `Shared::is_open`.
use Rattle.std.proofs.Common.{is_some, ap, ◌∙◌}
use Rattle.std.specs.Prelude.{position}
use Rattle.shared_ring.specs.Seats.{is_of}
use Rattle.shared_ring.specs.Seen.{SharedSeen}
use Rattle.shared_ring.proofs.RingSteps.{open_told}
use Rattle.shared_ring.proofs.shared.Shared.is_open.Goals as goal

pub returns : goal.returns
returns c = λ h l.
    c.is_some.ensures ∙ ap is_some (c.find.ensures ∙ ap (position (is_of c.args.ticket)) c.deref.ensures.value
    ∙ ap (λ (x : SharedSeen). position (is_of c.args.ticket) x.seats) c.self.view_is)
    ∙ open_told h c.args.self.now c.args.ticket l
