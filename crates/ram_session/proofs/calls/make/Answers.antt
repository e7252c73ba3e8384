-- What `Live::make` leaves or refuses holds of each state that the machine stands for. For `make`.
use Rattle.std.proofs.Common.{Err, ap, sym, ◌∙◌}
use Rattle.zone_spec.specs.declared.Refusal.{Refusal}
use Rattle.ram_session.proofs.calls.make.Goals as goal

pub returns-in-Ok-clause-made : goal.returns-in-Ok-clause-made
returns-in-Ok-clause-made c layout mem s lies stands state = c.in-Ok.ensures.made layout mem s stands

pub returns-in-Err-clause-refused : goal.returns-in-Err-clause-refused
returns-in-Err-clause-refused c layout mem s lies stands state = c.in-Err.ensures.refused layout mem s stands
    ∙ ap (λ (why : Refusal). Err why) (sym c.cause.ensures)
