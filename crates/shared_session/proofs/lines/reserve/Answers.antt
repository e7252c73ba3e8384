-- A payload reserved is the line's operation. For `reserve`.
use Rattle.std.proofs.Common.{length}
use Rattle.shared_spec.specs.Machine.{refusal}
use Rattle.shared_spec.specs.Histories.{shared_zone}
use Rattle.shared_session.proofs.Steps.{reserved}
use Rattle.shared_session.proofs.lines.reserve.Goals as goal

pub returns-in-Ok-clause-done : goal.returns-in-Ok-clause-done
returns-in-Ok-clause-done c = λ h l. reserved h c.args.payload
    (refusal h.zone (shared_zone h).calls (length c.args.payload)) _ _ _
    (c.in-Ok.ensures.answer h l) (c.in-Ok.ensures.left h l)
