-- `move_image` ends as wanted at each return: no memory, text not printed, image written whole, or
-- a front of it. `MoveEnds` has the cases.
use Rattle.std.proofs.Common.{[], ◌∙◌, ℕ, ap₂, refl, Err, inl, inr}
use Rattle.ramoops_layout.specs.Laid.{zones_of}
use Rattle.prz_read.specs.Saving.{saved}
use Rattle.script_spec.specs.Texts.{move_text}
use Rattle.command_line.specs.Words.{move_for}
use Rattle.commands.proofs.MoveEnds.{move_memory, move_unput, move_saved, move_unsaved}
use Rattle.commands.proofs.ImageFaults.{fails_first}
use Rattle.commands.proofs.Due.{first_put, text_put}
use Rattle.commands.proofs.moving.move_image.Goals as goal

pub returns-in-Err-put-clause-ended : goal.returns-in-Err-put-clause-ended
returns-in-Err-put-clause-ended g c = λ left f. move_unput (move_for c.args.from c.args.to) _ _ c.in-Ok.logs
    (record { left = refl; source = refl }) c.in-Ok.ensures.read c.in-Ok-move_text.text.items []
    (c.in-Ok-move_text.ensures ∙ ap₂ (λ (a b : ℕ). move_text a b (zones_of c.args.to) (saved c.in-Ok.logs))
    c.mem-size.ensures c.mem.ensures) c.in-Ok.ensures.same (rw c.deref.ensures.value at c.in-Err-put.ensures.bytes)

pub returns-in-Ok-save-clause-ended : goal.returns-in-Ok-save-clause-ended
returns-in-Ok-save-clause-ended g c = λ left f. move_saved (move_for c.args.from c.args.to) _ _ c.in-Ok.logs
    (record { left = refl; source = refl }) c.in-Ok.ensures.read c.in-Ok-move_text.text.items c.image.result.now
    (c.in-Ok-move_text.ensures ∙ ap₂ (λ (a b : ℕ). move_text a b (zones_of c.args.to) (saved c.in-Ok.logs))
    c.mem-size.ensures c.mem.ensures) (c.image.ensures ∙ c.in-Ok-moved.ensures)
    (rw c.deref.ensures.value at c.in-Ok-put.ensures.bytes) (rw c.in-Ok.ensures.same at c.in-Ok-save.ensures.bytes)

pub returns-clause-ended : goal.returns-clause-ended
returns-clause-ended g c = λ left f. move_unsaved (move_for c.args.from c.args.to) _ _ c.in-Ok.logs
    (record { left = refl; source = refl }) c.in-Ok.ensures.read c.in-Ok-move_text.text.items c.image.result.now
    (c.in-Ok-move_text.ensures ∙ ap₂ (λ (a b : ℕ). move_text a b (zones_of c.args.to) (saved c.in-Ok.logs))
    c.mem-size.ensures c.mem.ensures) (c.image.ensures ∙ c.in-Ok-moved.ensures)
    (rw c.deref.ensures.value at c.in-Ok-put.ensures.bytes) (rw c.in-Ok.ensures.same at c.in-Err-save.ensures.bytes)

pub returns-in-Err-move_text-clause-ended : goal.returns-in-Err-move_text-clause-ended
returns-in-Err-move_text-clause-ended g c = λ left f. move_memory (move_for c.args.from c.args.to) _ _ c.in-Ok.logs
    (record { left = refl; source = refl }) c.in-Ok.ensures.read
    (record { given = refl; holds = c.in-Ok.ensures.same })

pub returns-in-Err-moved-clause-ended : goal.returns-in-Err-moved-clause-ended
returns-in-Err-moved-clause-ended g c = λ left f. move_memory (move_for c.args.from c.args.to) _ _ c.in-Ok.logs
    (record { left = refl; source = refl }) c.in-Ok.ensures.read
    (record { given = refl; holds = c.in-Ok.ensures.same })

pub returns-in-Err-clause-put : goal.returns-in-Err-clause-put
returns-in-Err-clause-put g c = first_put (Err c.in-Err.stop) _ _ refl

pub returns-clause-put : goal.returns-clause-put
returns-clause-put g c = text_put _ _ _ c.in-Ok-put.ensures.bytes

pub returns-in-Err-clause-asked : goal.returns-in-Err-clause-asked
returns-in-Err-clause-asked g c = λ left f. fails_first _ _ (Err c.in-Err.stop)
    (record { script = record { left = refl; source = refl }; given = refl; writes = c.in-Err.ensures.unwritten })

pub returns-clause-asked : goal.returns-clause-asked
returns-clause-asked g c = λ left f. inr (rw c.in-Ok.ensures.unwritten at c.in-Err-save.ensures.asked)

pub returns-in-Err-clause-unread : goal.returns-in-Err-clause-unread
returns-in-Err-clause-unread g c = inl (c.in-Err.ensures.same, c.in-Err.ensures.unwritten)

pub returns-in-Err-move_text-clause-unread : goal.returns-in-Err-move_text-clause-unread
returns-in-Err-move_text-clause-unread g c = inl (c.in-Ok.ensures.same, c.in-Ok.ensures.unwritten)

pub returns-in-Err-moved-clause-unread : goal.returns-in-Err-moved-clause-unread
returns-in-Err-moved-clause-unread g c = inl (c.in-Ok.ensures.same, c.in-Ok.ensures.unwritten)

pub returns-in-Err-put-clause-unread : goal.returns-in-Err-put-clause-unread
returns-in-Err-put-clause-unread g c = inl (c.in-Ok.ensures.same, c.in-Ok.ensures.unwritten)

pub returns-in-Ok-save-clause-unread : goal.returns-in-Ok-save-clause-unread
returns-in-Ok-save-clause-unread g c = inr (c.in-Ok-save.ensures.unread ∙ c.in-Ok.ensures.read_count)

pub returns-clause-unread : goal.returns-clause-unread
returns-clause-unread g c = inr (c.in-Err-save.ensures.unread ∙ c.in-Ok.ensures.read_count)
