-- The twelve bytes that `write_header` writes are the header's one write.
use Rattle.std.proofs.Common.{◌∷◌, [], ◌≡◌}
use Rattle.blk_spec.specs.Rings.{header_write}
use Rattle.zone_blk.specs.Outcomes.{one_write}
use Rattle.zone_blk.proofs.Sequences.{ends-same}
use Rattle.zone_blk.proofs.writing.write_header.Goals as goal

pub returns-clause-ends : goal.returns-clause-ends
returns-clause-ends g c =
    let same : one_write c.args.zone.at c.as_slice.result.now ≡ header_write c.args.zone c.args.words ∷ [] = cc in
    ends-same c.write.result _ _ _ _ _ _ same c.write.ensures.ends
