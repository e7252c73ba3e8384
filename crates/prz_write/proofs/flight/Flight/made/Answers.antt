-- After so many stores the zone's bytes are the image before with just these, and after all the
-- call has no more. For `Flight::made`.
use Rattle.std.proofs.Common.{◌≡◌, ap, sym, ◌∙◌, subst}
use Rattle.store_steps.specs.Flying.{Flying}
use Rattle.store_steps.specs.Machine.{IsKept}
use Rattle.zone_spec.specs.Calls.{image_after}
use Rattle.store_steps.proofs.FlightImage.{stands_image, stands_last}
use Rattle.prz_write.proofs.flight.Flight.made.Goals as goal

pub returns-clause-image : goal.returns-clause-image
returns-clause-image c = λ now before stands.
    stands_image c.args.self.now now before stands ∙ ap (λ (f : Flying). image_after c.args.self.now.zone
    c.args.self.now.call before f.made) (sym c.self.view_is)

pub returns-clause-last : goal.returns-clause-last
returns-clause-last c = λ now before stands e.
    let m : c.args.self.now.made ≡ c.self.inside.progress.steps.made = ap (λ (f : Flying). f.made) (sym c.self.view_is) in
    sym m ∙ stands_last c.args.self.now now before (subst IsKept c.self.view_is c.self.invariant.kept) stands (m ∙ e)
