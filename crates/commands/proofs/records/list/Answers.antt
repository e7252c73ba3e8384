-- `list` ends as wanted when the listing is printed whole, or a front of it. An image that can't
-- be read leaves the output as it was.
use Rattle.std.proofs.Common.{refl, Err}
use Rattle.command_spec.specs.Commands.{ListRecords}
use Rattle.commands.specs.Plans.{plan_for}
use Rattle.commands.proofs.RecordEnds.{list_put, list_front}
use Rattle.commands.proofs.Due.{none_put}
use Rattle.commands.proofs.records.list.Goals as goal

pub returns-in-Ok-put-clause-ended : goal.returns-in-Ok-put-clause-ended
returns-in-Ok-put-clause-ended g c = λ left f. list_put (plan_for ListRecords c.args.layout)
    _ _ _ c.in-Ok.ensures.read refl c.in-Ok-listing.text.items c.in-Ok-listing.ensures c.in-Ok.ensures.same
    (record { left = refl; source = refl }) (rw c.deref.ensures.value at c.in-Ok-put.ensures.bytes)

pub returns-clause-ended : goal.returns-clause-ended
returns-clause-ended g c = λ left f. list_front (plan_for ListRecords c.args.layout)
    _ _ _ c.in-Ok.ensures.read refl c.in-Ok-listing.text.items c.in-Ok-listing.ensures c.in-Ok.ensures.same
    (record { left = refl; source = refl }) (rw c.deref.ensures.value at c.in-Err-put.ensures.bytes)

pub returns-in-Err-clause-put : goal.returns-in-Err-clause-put
returns-in-Err-clause-put g c = none_put (Err c.in-Err.stop) _ _ refl
