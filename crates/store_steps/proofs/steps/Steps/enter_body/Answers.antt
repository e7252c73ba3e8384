-- After a dump's line comes its body, or the end if no byte of it fits. For `enter_body`.
use Rattle.std.proofs.Common.{◌≡◌, ℕ, ◌<◌, length, sym, ◌∙◌, subst, arith}
use Rattle.store_steps.specs.Calls.{front_of, line_of}
use Rattle.store_steps.specs.Flying.{Flying, flying, at_place}
use Rattle.store_steps.specs.Machine.{Enters}
use Rattle.store_steps.specs.Phases.{IsPlaced}
use Rattle.store_steps.proofs.DumpParts.{body_placed}
use Rattle.store_steps.specs.declared.place.Leg.TheVariants.{Body}
use Rattle.store_steps.proofs.StoresLeft.{all_stored}
use Rattle.store_steps.proofs.PhaseEntry.{enter_finished}
use Rattle.store_steps.proofs.Parts.{enter_body, begun, no_body}
use Rattle.store_steps.proofs.steps.Steps.enter_body.Goals as goal

pub returns-then-front_len-eq0-clause-enters : goal.returns-then-front_len-eq0-clause-enters
returns-then-front_len-eq0-clause-enters c =
    let f : Flying = flying c.args.self.now c.args.line.now c.args.payload.now in
    let none : length (front_of f.zone.cap f.call) ≡ 0 = omega (arith, c.front_len.ensures.value) in
    subst (λ s. Enters f (flying s c.args.line.now c.args.payload.now)) (sym c.enter_phase.ensures.place)
    (enter_finished f (all_stored f c.requires.done) c.requires.done c.requires.header
    (c.requires.behind ∙ no_body f.zone f.call none))

pub returns-else-front_len-eq0-clause-enters : goal.returns-else-front_len-eq0-clause-enters
returns-else-front_len-eq0-clause-enters c =
    let f : Flying = flying c.args.self.now c.args.line.now c.args.payload.now in
    let at : ℕ = length (line_of f.call) in
    let e : c.line_len-head.result ≡ at = c.line_len-head.ensures.value in
    let some : 0 < length (front_of f.zone.cap f.call) = omega (arith, c.front_len.ensures.value) in
    subst (λ s. Enters f (flying s c.args.line.now c.args.payload.now)) (sym c.enter_leg.ensures.place)
    (subst (λ n. Enters f (at_place f (begun Body n))) (sym e)
    (enter_body f (all_stored f c.requires.done)
    c.requires.done c.requires.header c.requires.behind
    (omega (arith, c.requires.sound.line, c.requires.sound.valid.room)) some))

pub returns-else-front_len-eq0-clause-placed : goal.returns-else-front_len-eq0-clause-placed
returns-else-front_len-eq0-clause-placed c = λ h.
    subst (λ s. IsPlaced (flying s c.args.line.now c.args.payload.now)) (sym c.enter_leg.ensures.place)
    (body_placed c.args.self.now.kind c.args.line.now c.args.payload.now c.args.self.now.words c.args.self.now.zone.cap
    c.line_len-head.result c.line_len-head.ensures.value (omega (arith, c.front_len.ensures.value)))
