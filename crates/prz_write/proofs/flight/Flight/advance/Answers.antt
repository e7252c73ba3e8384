-- A flight that stands for a zone's bytes before still does after its stores, which are the next. For
-- `Flight::advance`.
use Rattle.std.proofs.Common.{sym, ap, ◌∙◌, subst, take, drop}
use Rattle.zone_spec.specs.Calls.{call_stores}
use Rattle.prz_region.specs.CutRegion.{span, stored}
use Rattle.store_steps.specs.Machine.{StandsFor}
use Rattle.store_steps.specs.Flying.{Flying}
use Rattle.prz_write.proofs.flight.Flight.advance.Goals as goal

pub returns-clause-stands : goal.returns-clause-stands
returns-clause-stands c = λ before stands.
    c.advance.ensures.stands before (subst (λ (f : Flying). StandsFor f (span c.args.spans.now c.args.i) before)
    (sym c.self.view_is) stands)

pub returns-clause-stores : goal.returns-clause-stores
returns-clause-stores c = λ before stands.
    c.advance.ensures.stores before (subst (λ (f : Flying). StandsFor f (span c.args.spans.now c.args.i) before)
    (sym c.self.view_is) stands)
    ∙ ap (λ (f : Flying). stored c.args.spans.now c.args.i
    (take c.args.count (drop f.made (call_stores f.zone f.call before)))) c.self.view_is
