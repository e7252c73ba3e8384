-- The number is that of the call's stores. For `Flight::total`.
use Rattle.std.proofs.Common.{ap, ◌∙◌}
use Rattle.store_steps.specs.Flying.{Flying}
use Rattle.store_steps.specs.Counts.{total_of}
use Rattle.prz_write.proofs.CallSteps.{seen_by}
use Rattle.prz_write.proofs.flight.Flight.total.Goals as goal

pub returns-clause-stores : goal.returns-clause-stores
returns-clause-stores c = λ now before stands.
    c.total.ensures.value
    ∙ ap (λ (f : Flying). total_of f) (seen_by c.self.inside.progress c.line.result.now c.payload.result.now
    c.self.invariant.kind c.line.ensures.value c.payload.ensures ∙ c.self.view_is)
    ∙ stands.total
