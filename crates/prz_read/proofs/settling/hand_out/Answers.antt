-- The words of the reading are the bytes that the header reads. For `hand_out`.
use Rattle.std.proofs.Common.{length, sym, ap, ◌∙◌}
use Rattle.zone_spec.specs.PartReadings.{words_read}
use Rattle.zone_spec.specs.Reading.{ZoneReading}
use Rattle.zone_boot.proofs.BootStart.{header-reads}
use Rattle.prz_read.proofs.settling.hand_out.Goals as goal

pub fix_header-requires-clause-reads : goal.fix_header-requires-clause-reads
fix_header-requires-clause-reads c =
    let z = c.args.boot.now.zone in
    (header-reads z c.bytes-image.result.now c.reading.inside.words c.as_slice.result.now c.requires.valid
    (ap length c.bytes-image.ensures ∙ c.requires.size) (λ k. (c.type_inv.image k).fits)
    (ap (λ (r : ZoneReading). r.words) c.reading.view_is ∙ c.requires.words c.in-Header.is
    ∙ ap (words_read z) (sym c.bytes-image.ensures))
    (c.as_slice.ensures.value ∙ c.bytes_of-reads.ensures)).0
