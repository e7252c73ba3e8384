-- The bytes that are encoded are the header's twelve. For `header_parity`.
use Rattle.std.proofs.Common.{List, ℕ, ap, ◌∙◌}
use Rattle.code_spec.specs.Code.{parity_of}
use Rattle.zone_spec.specs.Parts.{Header}
use Rattle.prz_ecc.proofs.Readings.{own_is}
use Rattle.prz_ecc.proofs.header_parity.Goals as goal

pub returns : goal.returns
returns c =
    let p = c.header_place-header.ensures in
    c.parity.ensures ∙ ap (λ (bs : List ℕ). parity_of c.args.zone.now.parity bs)
    (own_is _ _ Header _ _ _ p.at p.len c.bytes_at.ensures)
