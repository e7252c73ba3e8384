-- `erase` ends as wanted when the record is refused, and when the image is written back whole, or
-- a front of it. `RecordEnds` has the cases.
use Rattle.std.proofs.Common.{refl, ◌∙◌, inl, inr}
use Rattle.command_spec.specs.Commands.{Erase}
use Rattle.commands.specs.Plans.{plan_for}
use Rattle.commands.proofs.RecordEnds.{erase_saved, erase_unsaved, erase_stopped}
use Rattle.commands.proofs.records.erase.Goals as goal

pub returns-in-Err-erase-clause-ended : goal.returns-in-Err-erase-clause-ended
returns-in-Err-erase-clause-ended g c = λ left given f h. erase_stopped
    (plan_for (Erase c.args.name.now) c.args.layout)
    _ _ _ _ c.args.name.now refl c.in-Ok.ensures.booted c.in-Err-erase.e c.stop_of.result c.stop_of.ensures
    (rw c.as_bytes.ensures.value at c.in-Err-erase.ensures.erased) (record { left = refl; source = refl })
    (record { given = refl; holds = c.in-Ok.ensures.same })

pub returns-in-Ok-save-clause-ended : goal.returns-in-Ok-save-clause-ended
returns-in-Ok-save-clause-ended g c = λ left given f h. erase_saved
    (plan_for (Erase c.args.name.now) c.args.layout)
    _ _ _ _ c.args.name.now refl c.in-Ok.ensures.booted _ _ c.into_image.result
    (rw c.as_bytes.ensures.value at c.in-Ok-erase.ensures.erased) c.into_image.ensures refl
    (record { left = refl; source = refl }) (rw (c.as_slice-2.ensures, c.in-Ok.ensures.same)
    at c.in-Ok-save.ensures.bytes)

pub returns-clause-ended : goal.returns-clause-ended
returns-clause-ended g c = λ left given f h. erase_unsaved (plan_for (Erase c.args.name.now) c.args.layout)
    _ _ _ _ c.args.name.now refl c.in-Ok.ensures.booted _ _ c.into_image.result
    (rw c.as_bytes.ensures.value at c.in-Ok-erase.ensures.erased) c.into_image.ensures refl
    (record { left = refl; source = refl }) (rw (c.as_slice-2.ensures, c.in-Ok.ensures.same)
    at c.in-Err-save.ensures.bytes)

pub returns-in-Err-clause-unread : goal.returns-in-Err-clause-unread
returns-in-Err-clause-unread g c = inl (c.in-Err.ensures.same, c.in-Err.ensures.unwritten)

pub returns-in-Err-erase-clause-unread : goal.returns-in-Err-erase-clause-unread
returns-in-Err-erase-clause-unread g c = inl (c.in-Ok.ensures.same, c.in-Ok.ensures.unwritten)

pub returns-in-Ok-save-clause-unread : goal.returns-in-Ok-save-clause-unread
returns-in-Ok-save-clause-unread g c = inr (c.in-Ok-save.ensures.unread ∙ c.in-Ok.ensures.read_count)

pub returns-clause-unread : goal.returns-clause-unread
returns-clause-unread g c = inr (c.in-Err-save.ensures.unread ∙ c.in-Ok.ensures.read_count)
