-- The two blocks and their parity are the parts of the zone, so the answers tell whether they are
-- codewords, and what is left is theirs. For `excess_pair`.
use Rattle.std.proofs.Common.{◌+◌, arith}
use Rattle.zone_spec.specs.Parts.{Block}
use Rattle.prz_ecc.proofs.Readings.{is_part, own_is, codeword_is, excess_to}
use Rattle.prz_ecc.proofs.excess_pair.Goals as goal

pub returns-clause-first : goal.returns-clause-first
returns-clause-first c =
    let p = c.block_place-one.ensures in
    let size = c.requires.size in
    let part = is_part c.args.zone.now c.args.image.now (Block c.args.b) _ _ _ _ _ p.at p.len p.parity_at
    c.bytes_at.ensures c.bytes_at-2.ensures (omega (arith, p.parity_within, size)) in
    codeword_is c.args.zone.now c.args.image.now (Block c.args.b) _ _ _ _ part part.long c.sum_pair.ensures.a

pub returns-clause-second : goal.returns-clause-second
returns-clause-second c =
    let p = c.block_place-one.ensures in
    let q = c.block_place-other.ensures in
    let size = c.requires.size in
    let part = is_part c.args.zone.now c.args.image.now (Block c.args.b) _ _ _ _ _ p.at p.len p.parity_at
    c.bytes_at.ensures c.bytes_at-2.ensures (omega (arith, p.parity_within, size)) in
    codeword_is c.args.zone.now c.args.image.now (Block (c.args.b + 1)) _ _ _ _
    (is_part _ _ (Block (c.args.b + 1)) _ _ _ _ _ q.at q.len q.parity_at c.bytes_at-3.ensures c.bytes_at-4.ensures
    (omega (arith, q.parity_within, size))) part.long c.sum_pair.ensures.b

pub returns-clause-first_excess : goal.returns-clause-first_excess
returns-clause-first_excess c =
    let p = c.block_place-one.ensures in
    excess_to c.args.zone.now c.args.image.now (Block c.args.b) _ _ _ c.sum_pair.new.out_a
    (own_is _ _ (Block c.args.b) _ _ _ p.at p.len c.bytes_at.ensures) p.parity_at
    c.bytes_at-2.ensures c.sum_pair.ensures.excess_a

pub returns-clause-second_excess : goal.returns-clause-second_excess
returns-clause-second_excess c =
    let p = c.block_place-other.ensures in
    excess_to c.args.zone.now c.args.image.now (Block (c.args.b + 1)) _ _ _ c.sum_pair.new.out_b
    (own_is _ _ (Block (c.args.b + 1)) _ _ _ p.at p.len c.bytes_at-3.ensures) p.parity_at
    c.bytes_at-4.ensures c.sum_pair.ensures.excess_b
