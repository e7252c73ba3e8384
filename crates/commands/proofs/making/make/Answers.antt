-- `make` ends as wanted when the summary can't be printed, and when the image is written whole, or
-- a front of it. `MakeEnds` has the cases.
use Rattle.std.proofs.Common.{refl}
use Rattle.command_spec.specs.Commands.{Make}
use Rattle.commands.specs.Plans.{plan_for}
use Rattle.commands.proofs.MakeEnds.{make_unput, make_saved, make_unsaved}
use Rattle.commands.proofs.Due.{text_put}
use Rattle.commands.proofs.making.make.Goals as goal

pub returns-in-Err-put-clause-ended : goal.returns-in-Err-put-clause-ended
returns-in-Err-put-clause-ended g c = λ left f. make_unput (plan_for (Make c.args.n) c.args.layout)
    c.args.n _ _ refl (record { left = refl; source = refl }) c.in-Ok.made.1.items c.in-Ok.ensures.summary
    (record { holds = refl; store = refl })
    (rw c.deref.ensures.value at c.in-Err-put.ensures.bytes)

pub returns-in-Ok-save-clause-ended : goal.returns-in-Ok-save-clause-ended
returns-in-Ok-save-clause-ended g c = λ left f. make_saved (plan_for (Make c.args.n) c.args.layout)
    c.args.n _ _ refl (record { left = refl; source = refl }) c.in-Ok.made.1.items c.in-Ok.ensures.summary
    c.in-Ok.made.0 c.in-Ok.ensures.image (rw c.deref.ensures.value at c.in-Ok-put.ensures.bytes)
    (rw c.as_slice.ensures at c.in-Ok-save.ensures.bytes)

pub returns-clause-ended : goal.returns-clause-ended
returns-clause-ended g c = λ left f. make_unsaved (plan_for (Make c.args.n) c.args.layout)
    c.args.n _ _ refl (record { left = refl; source = refl }) c.in-Ok.made.1.items c.in-Ok.ensures.summary
    c.in-Ok.made.0 c.in-Ok.ensures.image (rw c.deref.ensures.value at c.in-Ok-put.ensures.bytes)
    (rw c.as_slice.ensures at c.in-Err-save.ensures.bytes)

pub returns-clause-put : goal.returns-clause-put
returns-clause-put g c = text_put _ _ _ c.in-Ok-put.ensures.bytes
