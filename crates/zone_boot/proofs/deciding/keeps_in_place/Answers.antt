-- The time line is asked for where it counts. For `keeps_in_place`.
use Rattle.std.proofs.Common.{sym, ap, ◌∙◌}
use Rattle.zone_spec.specs.Reading.{zone_reading, state_of}
use Rattle.ring_laws.proofs.States.{reading_words, reading_state}
use Rattle.zone_boot.proofs.deciding.keeps_in_place.Goals.{in-Found-Dump, in_default, in_default-2}
use Rattle.zone_boot.proofs.deciding.keeps_in_place.Goals as goal

pub returns : goal.returns
returns c =
    let z = c.args.zone.now in
    let x = c.args.image.now in
    c.keeps.ensures (zone_reading z x) (reading_words z x ∙ sym c.requires.words)
    (reading_state z x ∙ ap (state_of z) (sym c.requires.words) ∙ sym c.requires.state)
    (λ dump found. elim c.match-state.branch [
      | in-Found-Dump w ↦ w.is_timed-is ∙ w.begins_with_line-is_timed.ensures
      | in_default w ↦ absurd (w.in_default.not-Dump-1 dump)
      | in_default-2 w ↦ absurd (w.in_default.not-Found-0 found)
    ])
