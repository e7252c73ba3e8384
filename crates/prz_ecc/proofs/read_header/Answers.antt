-- What was decoded is the header with its parity, so words, counts and places that differ are
-- those of its reading. For `read_header`.
use Rattle.std.proofs.Common.{List, ℕ, ap, ◌∙◌, arith}
use Rattle.zone_spec.specs.Parts.{Header, words_in}
use Rattle.prz_ecc.proofs.Readings.{IsPart, is_part, answer_is, fixes_are, data_is, counts_are}
use Rattle.prz_ecc.proofs.read_header.Goals as goal

part : (c : goal.After-words_of) → IsPart c.args.zone.now c.args.image.now Header c.copy.new.out.items
    c.bytes_at-par.result.now
part c =
    let p = c.header_place-place.ensures in
    let size = c.requires.size in
    is_part _ _ Header _ _ _ _ _ p.at p.len p.parity_at (c.copy.ensures ∙ c.bytes_at.ensures) c.bytes_at-par.ensures
    (omega (arith, p.parity_within, size))

pub returns-clause-words : goal.returns-clause-words
returns-clause-words c =
    c.words_of.ensures ∙ ap (λ (bs : List ℕ). words_in c.args.zone.now.byte_order bs)
    (c.as_slice.ensures.value ∙ data_is _ _ _ _ _ _ (part c) c.correct-outcome.ensures.data)

pub returns-clause-outcome : goal.returns-clause-outcome
returns-clause-outcome c = answer_is _ _ _ _ _ _ (part c) c.correct-outcome.ensures.answer

pub returns-clause-counts : goal.returns-clause-counts
returns-clause-counts c = counts_are _ _ Header _ (answer_is _ _ _ _ _ _ (part c) c.correct-outcome.ensures.answer)

pub returns-clause-fixes : goal.returns-clause-fixes
returns-clause-fixes c = fixes_are _ _ _ _ _ _ (part c) c.correct-outcome.ensures.fixes
