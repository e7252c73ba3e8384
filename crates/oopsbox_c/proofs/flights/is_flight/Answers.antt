-- The last test is that of the steps
use Rattle.std.proofs.Common.{List, ℕ, sym, subst}
use Rattle.store_steps.specs.Flying.{flying}
use Rattle.store_steps.specs.Machine.{IsKept}
use Rattle.oopsbox_c.proofs.flights.is_flight.Goals as goal

pub returns-then-line-le36 : goal.returns-then-line-le36
returns-then-line-le36 c =
    let line : List ℕ = c.args.line.now in
    let payload : List ℕ = c.args.payload.now in (
      λ t. record {
        place = c.is_place.ensures.0 c.if-not-is_place.false;
        kind = c.if-flight-gt2.false;
        leg = c.if-flight-gt3.false;
        phase = c.if-flight-gt9.false;
        line_len = c.if-flight-line.false;
        payload_len = c.if-flight-payload.false;
        short = c.if-line-le36.true;
        kept = subst (λ s. IsKept (flying s line payload)) c.steps_of.ensures (c.is_kept.ensures.0 t);
      },
      λ f. c.is_kept.ensures.1 (subst (λ s. IsKept (flying s line payload)) (sym c.steps_of.ensures) f.kept),
    )
