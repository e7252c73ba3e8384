-- `extract` ends as wanted when the name is refused, and when the content is printed whole, or a
-- front of it. Before that nothing is printed.
use Rattle.std.proofs.Common.{refl, subst, List, ℕ, Err}
use Rattle.prz_read.specs.Saving.{saved}
use Rattle.ram_session.specs.Records.{IsContent}
use Rattle.command_spec.specs.Commands.{Extract}
use Rattle.commands.specs.Plans.{plan_for}
use Rattle.commands.proofs.RecordEnds.{extract_put, extract_front, extract_stopped}
use Rattle.commands.proofs.Due.{none_put}
use Rattle.commands.proofs.records.extract.Goals as goal

pub returns-in-Err-content_of-clause-ended : goal.returns-in-Err-content_of-clause-ended
returns-in-Err-content_of-clause-ended g c = λ left f. extract_stopped
    (plan_for (Extract c.args.name.now) c.args.layout)
    _ _ _ c.args.name.now refl c.in-Ok.ensures.read c.in-Err-content_of.e c.stop_of.result c.stop_of.ensures
    (subst (λ (text : List ℕ). IsContent (saved c.in-Ok.logs) text (Err c.in-Err-content_of.e))
    c.as_bytes.ensures.value c.in-Err-content_of.ensures) (record { left = refl; source = refl })
    (record { given = refl; holds = c.in-Ok.ensures.same })

pub returns-in-Ok-put-clause-ended : goal.returns-in-Ok-put-clause-ended
returns-in-Ok-put-clause-ended g c = λ left f. extract_put (plan_for (Extract c.args.name.now) c.args.layout)
    _ _ _ c.args.name.now refl c.in-Ok.ensures.read c.in-Ok-content_of.content
    (rw c.as_bytes.ensures.value at c.in-Ok-content_of.ensures) c.in-Ok.ensures.same
    (record { left = refl; source = refl }) (rw c.as_slice.ensures at c.in-Ok-put.ensures.bytes)

pub returns-clause-ended : goal.returns-clause-ended
returns-clause-ended g c = λ left f. extract_front (plan_for (Extract c.args.name.now) c.args.layout)
    _ _ _ c.args.name.now refl c.in-Ok.ensures.read c.in-Ok-content_of.content
    (rw c.as_bytes.ensures.value at c.in-Ok-content_of.ensures) c.in-Ok.ensures.same
    (record { left = refl; source = refl }) (rw c.as_slice.ensures at c.in-Err-put.ensures.bytes)

pub returns-in-Err-clause-put : goal.returns-in-Err-clause-put
returns-in-Err-clause-put g c = none_put (Err c.in-Err.stop) _ _ refl

pub returns-in-Err-content_of-clause-put : goal.returns-in-Err-content_of-clause-put
returns-in-Err-content_of-clause-put g c = none_put (Err c.stop_of.result) _ _ refl
