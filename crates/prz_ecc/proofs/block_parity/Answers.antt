-- The bytes that are encoded are those of block `b`. For `block_parity`.
use Rattle.std.proofs.Common.{List, ℕ, ap, ◌∙◌}
use Rattle.code_spec.specs.Code.{parity_of}
use Rattle.zone_spec.specs.Parts.{Block}
use Rattle.prz_ecc.proofs.Readings.{own_is}
use Rattle.prz_ecc.proofs.block_parity.Goals as goal

pub returns : goal.returns
returns c =
    let p = c.block_place-place.ensures in
    c.parity.ensures ∙ ap (λ (bs : List ℕ). parity_of c.args.zone.now.parity bs)
    (own_is _ _ (Block c.args.b) _ _ _ p.at p.len c.bytes_at.ensures)
