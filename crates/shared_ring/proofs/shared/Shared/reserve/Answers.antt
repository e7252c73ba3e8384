-- A reservation made or refused is the history's operation. For `Shared::reserve`.
use Rattle.std.proofs.Common.{sym, ap, ◌∙◌, subst, length-append}
use Rattle.shared_spec.specs.Machine.{refusal}
use Rattle.shared_spec.specs.Runs.{Reserve}
use Rattle.shared_spec.specs.Histories.{shared_zone, and_then}
use Rattle.shared_ring.specs.Seen.{SharedSeen, IsLeftBy, stores}
use Rattle.shared_ring.proofs.RingSteps.{left_reserved, left_refused, reserved_in}
use Rattle.shared_ring.proofs.shared.Shared.reserve.Goals as goal

pub returns-in-Some-clause-left : goal.returns-in-Some-clause-left
returns-in-Some-clause-left c = λ h l.
    left_refused h c.args.self.now c.args.payload c.in-Some.why l
    (sym c.in-Some.is ∙ c.refusal.ensures.left h l
    ∙ ap (refusal h.zone (shared_zone h).calls) c.len.ensures.len)

pub returns-in-None-clause-left : goal.returns-in-None-clause-left
returns-in-None-clause-left c = λ h l.
    subst (λ (x : SharedSeen). IsLeftBy (and_then h (Reserve c.args.payload)) x) (sym c.seat.ensures.seated)
    (left_reserved h c.args.self.now c.args.payload l
    (sym c.in-None.is ∙ c.refusal.ensures.left h l
    ∙ ap (refusal h.zone (shared_zone h).calls) c.len.ensures.len) c.requires.some)

pub returns-in-None-clause-stores : goal.returns-in-None-clause-stores
returns-in-None-clause-stores c =
    ap (λ (x : SharedSeen). stores x) c.seat.ensures.seated ∙ length-append c.args.self.now.region.made _

pub returns-in-None-clause-stored : goal.returns-in-None-clause-stored
returns-in-None-clause-stored c = λ h l.
    ap (λ (x : SharedSeen). x.region) c.seat.ensures.seated ∙ reserved_in h c.args.self.now c.args.payload l
