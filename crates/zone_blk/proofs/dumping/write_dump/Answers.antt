-- What `write_dump` writes, piece by piece, is a dump's one write with the front of the body that
-- fits.
use Rattle.std.proofs.Common.{◌≡◌, ◌∙◌, ◌+◌, ◌-◌, ap, take, length, min, arith}
use Rattle.std.proofs.lemmas.List.{take_min}
use Rattle.blk_spec.specs.Dumps.{body_kept}
use Rattle.zone_blk.proofs.Sequences.{ends-same, room-within}
use Rattle.zone_blk.proofs.DumpWrite.{dump-is, dump-ends}
use Rattle.zone_blk.proofs.dumping.write_dump.Goals as goal

pub returns-clause-ends : goal.returns-clause-ends
returns-clause-ends g c =
    let count : c.min.result ≡ min (c.args.zone.size - 12 - 40) (length c.args.body.now) =
    omega (arith, c.min.ensures) in
    let kept : c.split_at.result.0.now ≡ body_kept c.args.zone c.args.body.now =
    c.split_at.ensures.front ∙ ap (λ n. take n c.args.body.now) count
    ∙ take_min (c.args.zone.size - 12 - 40) c.args.body.now in
    dump-ends c.args.zone c.args.dump.time c.args.dump.packed c.args.dump.counter c.args.dump.reason c.args.body.now
    _ _ _ _ (room-within c.args.zone.at (c.args.zone.at + c.args.zone.size) _ (omega arith) c.requires.room)
    c.write_zone.result (ends-same c.write_zone.result _ _ _ _ _ _
    (dump-is c.args.zone c.args.dump.time c.args.dump.packed c.args.dump.counter c.args.dump.reason c.args.body.now
    c.split_at.result.0.now c.as_slice.result.now c.as_slice-2.result.now kept
    (c.as_slice.ensures.value ∙ c.header-header.ensures) (c.as_slice-2.ensures.value ∙ c.header_of-front.ensures))
    c.write_zone.ensures.ends)
