-- A log that was found lies in the data. For `tail_of`.
use Rattle.std.proofs.Common.{ap, sym, ◌∙◌, arith}
use Rattle.zone_spec.specs.declared.Words.{Words}
use Rattle.zone_spec.specs.PartReadings.{words_read}
use Rattle.zone_spec.specs.Reading.{ZoneReading}
use Rattle.ring_laws.proofs.States.{reading_words, reading_state}
use Rattle.prz_read.proofs.Fronts.{ring-found}
use Rattle.prz_read.proofs.settling.tail_of.Goals as goal

pub tail_read-requires-clause-within : goal.tail_read-requires-clause-within
tail_read-requires-clause-within c =
    let z = c.args.zone.now in
    let x = c.args.span.now in
    let read = c.reading.view_is ∙ c.requires.reading in
    let ring = ring-found z (words_read z x) (sym (reading_state z x) ∙ sym (ap (λ (r : ZoneReading). r.state) read)
    ∙ c.in-Found.is) in
    let size = ap (λ (w : Words). w.size) (ap (λ (r : ZoneReading). r.words) read ∙ reading_words z x) in
    let most = ring.1 in
    omega (arith, size, most)
