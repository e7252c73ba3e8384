-- The rings of a dump, put
use Rattle.std.proofs.Common.{ap, ◌∙◌, refl, Err}
use Rattle.command_spec.specs.Texts.{rings_text}
use Rattle.command_spec.specs.Commands.{Salvage}
use Rattle.commands.specs.Plans.{plan_for}
use Rattle.commands.proofs.DumpEnds.{rings_memory, rings_put, rings_front}
use Rattle.commands.proofs.Due.{none_put}
use Rattle.commands.proofs.salvaging.salvage.Goals as goal

pub returns-in-Err-all_rings-clause-ended : goal.returns-in-Err-all_rings-clause-ended
returns-in-Err-all_rings-clause-ended g c = λ left f.
    rings_memory (plan_for Salvage c.args.layout) _ _ c.in-Ok.scan c.in-Ok.ensures.read refl
    (record { left = refl; source = refl }) (record { given = refl; holds = c.in-Ok.ensures.same })

pub returns-in-Err-rings_text-clause-ended : goal.returns-in-Err-rings_text-clause-ended
returns-in-Err-rings_text-clause-ended g c = λ left f.
    rings_memory (plan_for Salvage c.args.layout) _ _ c.in-Ok.scan c.in-Ok.ensures.read refl
    (record { left = refl; source = refl }) (record { given = refl; holds = c.in-Ok.ensures.same })

pub returns-in-Ok-put-clause-ended : goal.returns-in-Ok-put-clause-ended
returns-in-Ok-put-clause-ended g c = λ left f.
    rings_put (plan_for Salvage c.args.layout) _ _ c.in-Ok.scan c.in-Ok.ensures.read refl
    c.in-Ok-all_rings.rings.items c.in-Ok-rings_text.text.items c.in-Ok-all_rings.ensures
    (c.in-Ok-rings_text.ensures ∙ ap rings_text c.deref.ensures.value) c.in-Ok.ensures.same
    (record { left = refl; source = refl }) (rw c.deref-2.ensures.value at c.in-Ok-put.ensures.bytes)

pub returns-clause-ended : goal.returns-clause-ended
returns-clause-ended g c = λ left f.
    rings_front (plan_for Salvage c.args.layout) _ _ c.in-Ok.scan c.in-Ok.ensures.read refl
    c.in-Ok-all_rings.rings.items c.in-Ok-rings_text.text.items c.in-Ok-all_rings.ensures
    (c.in-Ok-rings_text.ensures ∙ ap rings_text c.deref.ensures.value) c.in-Ok.ensures.same
    (record { left = refl; source = refl }) (rw c.deref-2.ensures.value at c.in-Err-put.ensures.bytes)

pub returns-in-Err-clause-put : goal.returns-in-Err-clause-put
returns-in-Err-clause-put g c = none_put (Err c.in-Err.stop) _ _ refl
