-- The numbers stand for the steps
use Rattle.std.proofs.Common.{sym, ap, ◌∙◌}
use Rattle.store_steps.specs.declared.steps.Steps.{Steps}
use Rattle.oopsbox_c.specs.Numbers.{call_in, leg_in, phase_in}
use Rattle.oopsbox_c.specs.Places.{zone_in}
use Rattle.oopsbox_c.proofs.Back.{call_back, leg_back, phase_back, joined}
use Rattle.oopsbox_c.proofs.flights.flight_of.Goals as goal

pub returns-clause-steps : goal.returns-clause-steps
returns-clause-steps c =
    let s : Steps = c.args.steps.now in
    joined s (zone_in c.args.place.now) (call_in c.call_number.result) (leg_in c.leg_number.result)
    (phase_in c.phase_number.result) (sym c.requires)
    (ap call_in c.call_number.ensures.value ∙ call_back s.kind)
    (ap leg_in c.leg_number.ensures.value ∙ leg_back s.place.leg)
    (ap phase_in c.phase_number.ensures.value ∙ phase_back s.place.phase)
