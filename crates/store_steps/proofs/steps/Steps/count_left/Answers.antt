-- The stores left in this phase, after it and in later legs sum to what is left of the call. For
-- `count_left`.
use Rattle.std.proofs.Common.{◌≡◌, sym, ap, ◌∙◌, arith}
use Rattle.store_steps.specs.Flying.{Flying, flying}
use Rattle.store_steps.specs.Machine.{behind}
use Rattle.store_steps.specs.LeftCounts.{behind_count}
use Rattle.store_steps.proofs.StoresLeft.{counted}
use Rattle.store_steps.proofs.LeftCounts.{behind_counted}
use Rattle.store_steps.proofs.PhaseStores.{block_some}
use Rattle.store_steps.proofs.steps.Steps.count_left.Goals as goal

pub returns : goal.returns
returns c =
    let f : Flying = flying c.args.self.now c.args.line.now c.args.payload.now in
    let b : c.behind_count-behind.result ≡ counted f.zone (behind f f.place.phase) =
    c.behind_count-behind.ensures.value
    ∙ ap (λ n. behind_count f n f.place.phase) c.later_count-later.ensures.value
    ∙ sym (behind_counted f (block_some f.zone.block c.requires.sound.valid.block).0 f.place.phase
    c.requires.sound.below c.requires.sound.within) in
    omega (arith, c.phase_len.ensures, b)
