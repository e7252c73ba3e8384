-- Past `count` stores of the phase the state is kept and stands for the bytes after them. For
-- `move_on`.
use Rattle.std.proofs.Common.{ℕ, List, ◌++◌, refl, sym, ap, ◌∙◌, arith}
use Rattle.zone_spec.specs.Stores.{Store, after_stores}
use Rattle.store_steps.specs.Flying.{Flying, flying}
use Rattle.store_steps.specs.Machine.{next_stores}
use Rattle.store_steps.proofs.FlightSteps.{next_length, left_later, stands_later, kept_later}
use Rattle.store_steps.proofs.HandOut.{call_of_bytes}
use Rattle.store_steps.proofs.Data.{bytes_next}
use Rattle.store_steps.proofs.steps.Steps.move_on.Goals as goal

pub returns-clause-kept : goal.returns-clause-kept
returns-clause-kept c =
    kept_later (flying c.args.self.now c.args.line.now c.args.payload.now)
    (flying c.settle.new.self c.args.line.now c.args.payload.now) c.args.count c.requires.kept c.requires.ready
    c.settle.ensures.sound c.settle.ensures.placed c.settle.ensures.settled

pub returns-clause-stands : goal.returns-clause-stands
returns-clause-stands c = λ now before bytes stands.
    let f : Flying = flying c.args.self.now c.args.line.now c.args.payload.now in
    let n : ℕ = c.args.count in
    let call_bytes = call_of_bytes c.args.self.now.kind c.args.line.now c.args.payload.now
    (λ i. omega (arith, c.type_inv.line i)) (λ i. omega (arith, c.type_inv.payload i)) in
    stands_later f (flying c.settle.new.self c.args.line.now c.args.payload.now) n now
    (after_stores now (next_stores f now n)) before (omega (arith, c.requires.kept.sound.valid.room))
    (next_length f now n bytes c.requires.ready) refl
    (bytes_next f now now n c.requires.kept.sound.valid call_bytes bytes bytes) c.settle.ensures.settled stands

pub returns-clause-coming : goal.returns-clause-coming
returns-clause-coming c = λ now bytes.
    let f : Flying = flying c.args.self.now c.args.line.now c.args.payload.now in
    let n : ℕ = c.args.count in
    let call_bytes = call_of_bytes c.args.self.now.kind c.args.line.now c.args.payload.now
    (λ i. omega (arith, c.type_inv.line i)) (λ i. omega (arith, c.type_inv.payload i)) in
    let next : List Store = next_stores f now n in
    left_later n f now (omega (arith, c.requires.kept.sound.valid.room))
    ∙ ap (λ (ss : List Store). next ++ ss) (sym (c.settle.ensures.settled.left (after_stores now next)
    (bytes_next f now now n c.requires.kept.sound.valid call_bytes bytes bytes)))
