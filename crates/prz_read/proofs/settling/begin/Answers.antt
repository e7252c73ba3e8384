-- The reading's words, state and counts begin the boot. For `begin`.
use Rattle.std.proofs.Common.{sym, ap, ◌∙◌}
use Rattle.zone_spec.specs.Reading.{ZoneReading, state_of}
use Rattle.zone_spec.specs.Boot.{keeps}
use Rattle.ring_laws.proofs.States.{reading_words, reading_state}
use Rattle.prz_read.proofs.NoCorrections.{boot_fixes-none}
use Rattle.prz_read.proofs.settling.begin.Goals as goal

pub returns-then-reading-eq0-clause-stands : goal.returns-then-reading-eq0-clause-stands
returns-then-reading-eq0-clause-stands c = λ image bytes read.
    let z = c.args.zone.now in
    let e = c.reading.view_is ∙ read in
    c.of_clean.ensures.stands image (ap (λ (r : ZoneReading). r.state) e) (c.keeps-is_kept.ensures ∙ ap (keeps z) read)
    (sym (boot_fixes-none z image bytes (sym (ap (λ (r : ZoneReading). r.corrected) e) ∙ c.if-reading-eq0.true)))

pub of_reading-requires-clause-state : goal.of_reading-requires-clause-state
of_reading-requires-clause-state c =
    let z = c.args.zone.now in
    let image = c.requires.reading.0 in
    let e = c.reading.view_is ∙ c.requires.reading.2 in
    ap (λ (r : ZoneReading). r.state) e ∙ reading_state z image
    ∙ ap (state_of z) (sym (ap (λ (r : ZoneReading). r.words) e ∙ reading_words z image))

pub returns-clause-stands : goal.returns-clause-stands
returns-clause-stands c = λ image bytes read.
    let z = c.args.zone.now in
    c.of_reading.ensures.stands image
    (ap (λ (r : ZoneReading). r.words) (c.reading.view_is ∙ read) ∙ reading_words z image)
    (c.keeps-is_kept.ensures ∙ ap (keeps z) read)
