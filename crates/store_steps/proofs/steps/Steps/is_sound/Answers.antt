-- The numbers of a phase that passes lie in the zone and in the call's bytes. For `is_sound`.
use Rattle.std.proofs.Common.{◌≤◌, ◌<◌, length, arith}
use Rattle.std.proofs.lemmas.Grind.{common_steps}
use Rattle.store_steps.specs.Calls.{line_of}
use Rattle.store_steps.specs.Flying.{Flying, flying}
use Rattle.store_steps.proofs.HandOut.{line_within}
use Rattle.store_steps.proofs.LeftCounts.{leg_short}
use Rattle.store_steps.proofs.steps.Steps.is_sound.Goals as goal

pub returns-then-self-phase : goal.returns-then-self-phase
returns-then-self-phase c =
    let f : Flying = flying c.args.self.now c.args.line.now c.args.payload.now in
    let below : f.place.start < f.zone.cap = grind (arith, common_steps) in
    let fits : f.place.size ≤ f.zone.cap = grind (arith, common_steps) in
    let number : f.place.number ≤ c.phase_len-phase.result = grind (arith, common_steps) in
    let line : length (line_of f.call) ≤ 36 =
    (let l : length (line_of f.call) ≤ length c.args.line.now =
    line_within c.args.self.now.kind c.args.line.now c.args.payload.now (length (line_of f.call)) (omega arith) in
    omega (arith, c.requires.line)) in (
      λ h. record {
        valid = c.requires.valid;
        below = below;
        fits = fits;
        short = leg_short f.zone.cap f.call f.place.leg (omega (arith, c.requires.valid.room)) line;
        line = line;
        number = omega (arith, number, c.phase_len-phase.ensures);
        within = c.is_within.ensures.0 h;
      },
      λ s. c.is_within.ensures.1 s.within,
    )
