-- From each finished phase the next one is entered as the order of stores says. For `enter`.
use Rattle.std.proofs.Common.{arith, ◌+◌, ◌<◌, refl, sym, subst}
use Rattle.std.proofs.lemmas.List.{nil_from_length}
use Rattle.store_steps.specs.declared.place.Phase.TheVariants.{Start, First, Second}
use Rattle.store_steps.specs.Flying.{Flying, flying}
use Rattle.store_steps.specs.Phases.{IsWithin, first_end, second_run, second_len, first_len}
use Rattle.store_steps.specs.Machine.{Enters}
use Rattle.store_steps.proofs.StoresLeft.{all_stored}
use Rattle.store_steps.proofs.PhaseStores.{block_some}
use Rattle.store_steps.proofs.PhaseEntry.{end_above, end_some, first_some, second_length, enter_zero_size}
use Rattle.store_steps.proofs.PhaseEntry.{enter_header_erased, enter_start, enter_first, enter_first_parity}
use Rattle.store_steps.proofs.PhaseEntry.{enter_next_parity, enter_second, enter_second_parity, enter_later_parity}
use Rattle.store_steps.proofs.PhaseEntry.{enter_header_first, enter_header_second}
use Rattle.store_steps.proofs.steps.Steps.enter.Goals as goal

pub returns-in-ZeroStart-clause-enters : goal.returns-in-ZeroStart-clause-enters
returns-in-ZeroStart-clause-enters c =
    let f : Flying = flying c.args.self.now c.args.line.now c.args.payload.now in
    subst (λ s. Enters f (flying s c.args.line.now c.args.payload.now)) (sym c.enter_phase.ensures.place)
    (enter_zero_size f (all_stored f c.requires.done)
    c.requires.done c.in-ZeroStart.is)

pub returns-in-ZeroSize-clause-enters : goal.returns-in-ZeroSize-clause-enters
returns-in-ZeroSize-clause-enters c =
    let f : Flying = flying c.args.self.now c.args.line.now c.args.payload.now in
    subst (λ s. Enters f (flying s c.args.line.now c.args.payload.now)) (sym c.enter_phase-in-ZeroSize.ensures.place)
    (enter_header_erased f (all_stored f c.requires.done)
    c.requires.done c.in-ZeroSize.is)

pub returns-in-Size-clause-enters : goal.returns-in-Size-clause-enters
returns-in-Size-clause-enters c =
    let f : Flying = flying c.args.self.now c.args.line.now c.args.payload.now in
    subst (λ s. Enters f (flying s c.args.line.now c.args.payload.now)) (sym c.enter_phase-in-Size.ensures.place)
    (enter_start f (all_stored f c.requires.done) c.requires.done c.in-Size.is)

pub returns-in-Start-clause-enters : goal.returns-in-Start-clause-enters
returns-in-Start-clause-enters c =
    let f : Flying = flying c.args.self.now c.args.line.now c.args.payload.now in
    let w : IsWithin f Start = subst (IsWithin f) c.in-Start.is c.requires.sound.within in
    subst (λ s. Enters f (flying s c.args.line.now c.args.payload.now)) (sym c.enter_phase-in-Start.ensures.place)
    (enter_first f (all_stored f c.requires.done) c.requires.done c.in-Start.is
    (first_some f c.requires.sound.below w))

pub returns-in-First-clause-enters : goal.returns-in-First-clause-enters
returns-in-First-clause-enters c =
    let f : Flying = flying c.args.self.now c.args.line.now c.args.payload.now in
    let w : IsWithin f First = subst (IsWithin f) c.in-First.is c.requires.sound.within in
    subst (λ s. Enters f (flying s c.args.line.now c.args.payload.now)) (sym c.enter_block.ensures)
    (enter_first_parity f (all_stored f c.requires.done) c.requires.done c.whole_blocks-block.result c.in-First.is
    c.whole_blocks-block.ensures
    (subst (λ b. b < first_end f) (sym c.whole_blocks-block.ensures)
    (end_above f.zone.block f.place.start (first_len f) (block_some f.zone.block c.requires.sound.valid.block).0
    (omega (arith, c.requires.sound.below, w)))))

pub returns-then-block-first_end-clause-enters : goal.returns-then-block-first_end-clause-enters
returns-then-block-first_end-clause-enters c =
    let f : Flying = flying c.args.self.now c.args.line.now c.args.payload.now in
    subst (λ s. Enters f (flying s c.args.line.now c.args.payload.now)) (sym c.enter_block-then-block-first_end.ensures)
    (enter_next_parity f (all_stored f c.requires.done) c.requires.done (f.place.block + 1) c.in-FirstParity.is refl
    (omega (arith, c.first_end.ensures.value)))

pub returns-then-second_len-gt0-clause-enters : goal.returns-then-second_len-gt0-clause-enters
returns-then-second_len-gt0-clause-enters c =
    let f : Flying = flying c.args.self.now c.args.line.now c.args.payload.now in
    subst (λ s. Enters f (flying s c.args.line.now c.args.payload.now)) (sym c.enter_phase-then-second_len-gt0.ensures.place)
    (enter_second f (all_stored f c.requires.done)
    c.requires.done c.in-FirstParity.is (omega (arith, c.first_end.ensures.value))
    (omega (arith, c.second_len.ensures.value, second_length f)) (second_length f)
    (block_some f.zone.block c.requires.sound.valid.block).0)

pub returns-else-second_len-gt0-clause-enters : goal.returns-else-second_len-gt0-clause-enters
returns-else-second_len-gt0-clause-enters c =
    let f : Flying = flying c.args.self.now c.args.line.now c.args.payload.now in
    subst (λ s. Enters f (flying s c.args.line.now c.args.payload.now)) (sym c.enter_phase-else-second_len-gt0.ensures.place)
    (enter_header_first f (all_stored f c.requires.done)
    c.requires.done c.in-FirstParity.is
    (omega (arith, c.first_end.ensures.value)) (nil_from_length (second_run f)
    (omega (arith, c.second_len.ensures.value, second_length f))))

pub returns-in-Second-clause-enters : goal.returns-in-Second-clause-enters
returns-in-Second-clause-enters c =
    let f : Flying = flying c.args.self.now c.args.line.now c.args.payload.now in
    let w : IsWithin f Second = subst (IsWithin f) c.in-Second.is c.requires.sound.within in
    subst (λ s. Enters f (flying s c.args.line.now c.args.payload.now)) (sym c.enter_block-in-Second.ensures)
    (enter_second_parity f (all_stored f c.requires.done)
    c.requires.done 0 c.in-Second.is refl
    (end_some f.zone.block (second_len f) (block_some f.zone.block c.requires.sound.valid.block).0 w))

pub returns-then-block-second_end-clause-enters : goal.returns-then-block-second_end-clause-enters
returns-then-block-second_end-clause-enters c =
    let f : Flying = flying c.args.self.now c.args.line.now c.args.payload.now in
    subst (λ s. Enters f (flying s c.args.line.now c.args.payload.now)) (sym c.enter_block-then-block-second_end.ensures)
    (enter_later_parity f (all_stored f c.requires.done) c.requires.done (f.place.block + 1) c.in-SecondParity.is refl
    (omega (arith, c.second_end.ensures.value)))

pub returns-else-block-second_end-clause-enters : goal.returns-else-block-second_end-clause-enters
returns-else-block-second_end-clause-enters c =
    let f : Flying = flying c.args.self.now c.args.line.now c.args.payload.now in
    subst (λ s. Enters f (flying s c.args.line.now c.args.payload.now)) (sym c.enter_phase-else-block-second_end.ensures.place)
    (enter_header_second f (all_stored f c.requires.done)
    c.requires.done c.in-SecondParity.is
    (omega (arith, c.second_end.ensures.value)))

pub returns-in-Header-clause-enters : goal.returns-in-Header-clause-enters
returns-in-Header-clause-enters c = c.enter_next_leg.ensures.enters
