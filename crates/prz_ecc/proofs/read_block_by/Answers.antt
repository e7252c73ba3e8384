-- What was decoded is block `b` with its parity, so bytes, counts and places that differ are those
-- of its reading. For `read_block_by`.
use Rattle.std.proofs.Common.{◌∙◌, arith}
use Rattle.zone_spec.specs.Parts.{Block}
use Rattle.prz_ecc.proofs.Readings.{IsPart, is_part, answer_is, fixes_are, data_is, counts_are, own_is, excess_from}
use Rattle.prz_ecc.proofs.read_block_by.Goals as goal

part : (c : goal.After-correct_by) → IsPart c.args.zone.now c.args.image.now (Block c.args.b)
    c.copy.new.out.items c.bytes_at-par.result.now
part c =
    let p = c.block_place-place.ensures in
    let size = c.requires.size in
    is_part _ _ (Block c.args.b) _ _ _ _ _ p.at p.len p.parity_at (c.copy.ensures ∙ c.bytes_at.ensures)
    c.bytes_at-par.ensures (omega (arith, p.parity_within, size))

pub correct_by-requires-clause-excess : goal.correct_by-requires-clause-excess
correct_by-requires-clause-excess c =
    let p = c.block_place-place.ensures in
    excess_from c.args.zone.now c.args.image.now (Block c.args.b) _ _ _ c.args.excess.now
    (own_is _ _ (Block c.args.b) _ _ _ p.at p.len (c.copy.ensures ∙ c.bytes_at.ensures)) p.parity_at
    c.bytes_at-par.ensures c.requires.excess

pub returns-clause-data : goal.returns-clause-data
returns-clause-data c = data_is _ _ _ _ _ _ (part c) c.correct_by.ensures.data

pub returns-clause-outcome : goal.returns-clause-outcome
returns-clause-outcome c = answer_is _ _ _ _ _ _ (part c) c.correct_by.ensures.answer

pub returns-clause-counts : goal.returns-clause-counts
returns-clause-counts c = counts_are _ _ (Block c.args.b) _ (answer_is _ _ _ _ _ _ (part c) c.correct_by.ensures.answer)

pub returns-clause-fixes : goal.returns-clause-fixes
returns-clause-fixes c = fixes_are _ _ _ _ _ _ (part c) c.correct_by.ensures.fixes
