-- After the header's parity comes the next leg that has bytes, or the end. For `enter_next_leg`.
use Rattle.std.proofs.Common.{◌<◌, length, sym, ap, subst, arith}
use Rattle.store_steps.specs.Calls.{line_of, later_stages}
use Rattle.store_steps.specs.Flying.{Flying, flying}
use Rattle.store_steps.specs.Machine.{Enters}
use Rattle.store_steps.specs.Phases.{IsPlaced}
use Rattle.store_steps.proofs.DumpParts.{line_placed}
use Rattle.store_steps.proofs.StoresLeft.{all_stored}
use Rattle.store_steps.proofs.PhaseEntry.{enter_finished}
use Rattle.store_steps.proofs.Parts.{enter_line}
use Rattle.store_steps.proofs.steps.Steps.enter_next_leg.Goals as goal

pub returns-else-line_len-eq0-clause-enters : goal.returns-else-line_len-eq0-clause-enters
returns-else-line_len-eq0-clause-enters c =
    let f : Flying = flying c.args.self.now c.args.line.now c.args.payload.now in
    let some : 0 < length (line_of f.call) = omega (arith, c.line_len.ensures.value) in
    subst (λ s. Enters f (flying s c.args.line.now c.args.payload.now)) (sym c.enter_leg.ensures.place)
    (enter_line f (all_stored f c.requires.done)
    c.requires.done c.requires.header c.in-Erasure.is (omega (arith, c.requires.sound.valid.room)) some)

pub returns-in-Payload-clause-enters : goal.returns-in-Payload-clause-enters
returns-in-Payload-clause-enters c =
    let f : Flying = flying c.args.self.now c.args.line.now c.args.payload.now in
    subst (λ s. Enters f (flying s c.args.line.now c.args.payload.now)) (sym c.enter_phase.ensures.place)
    (enter_finished f (all_stored f c.requires.done) c.requires.done c.requires.header
    (ap (later_stages f.zone f.call) c.in-Payload.is))

pub returns-in-Body-clause-enters : goal.returns-in-Body-clause-enters
returns-in-Body-clause-enters c =
    let f : Flying = flying c.args.self.now c.args.line.now c.args.payload.now in
    subst (λ s. Enters f (flying s c.args.line.now c.args.payload.now)) (sym c.enter_phase-in-Body.ensures.place)
    (enter_finished f (all_stored f c.requires.done) c.requires.done c.requires.header
    (ap (later_stages f.zone f.call) c.in-Body.is))

pub returns-else-line_len-eq0-clause-placed : goal.returns-else-line_len-eq0-clause-placed
returns-else-line_len-eq0-clause-placed c = λ h.
    subst (λ s. IsPlaced (flying s c.args.line.now c.args.payload.now)) (sym c.enter_leg.ensures.place)
    (line_placed c.args.self.now.kind c.args.line.now c.args.payload.now c.args.self.now.words
    (omega (arith, c.line_len.ensures.value)))
