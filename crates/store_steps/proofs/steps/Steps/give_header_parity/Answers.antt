-- The bytes handed out are the header's parity from the next number on. For `give_header_parity`.
use Rattle.std.proofs.Common.{ℕ, ◌+◌, sym, ap, ◌∙◌, take, drop, length, arith}
use Rattle.code_spec.specs.Code.{parity_of}
use Rattle.zone_spec.specs.declared.Zone.{Zone}
use Rattle.zone_spec.specs.Parts.{Part, Header, part_bytes, part_parity_at}
use Rattle.zone_spec.specs.Stores.{byte_stores}
use Rattle.zone_spec.specs.Stages.{stage_stores}
use Rattle.store_steps.proofs.ParityBytes.{parity_length}
use Rattle.store_steps.proofs.PhaseStores.{part-byte_stores}
use Rattle.store_steps.proofs.steps.Steps.give_header_parity.Goals as goal

pub give_parity-requires-clause-number : goal.give_parity-requires-clause-number
give_parity-requires-clause-number c =
    let e = ap length c.header_parity.ensures
    ∙ parity_length c.args.self.now.zone c.args.image.now (Header) (λ i. omega (arith, c.type_inv.image i)) in
    omega (arith, e, c.requires.number)

pub returns-clause-stores : goal.returns-clause-stores
unfolding stage_stores
returns-clause-stores c = λ line payload.
    let z : Zone = c.args.self.now.zone in
    let p : Part = Header in
    let k : ℕ = c.args.self.now.place.number in
    c.give_parity.ensures.stores line payload
    ∙ ap (λ xs. byte_stores (part_parity_at z p + k) (take c.args.count (drop k xs))) c.header_parity.ensures
    ∙ sym (part-byte_stores c.args.count k (part_parity_at z p) (parity_of z.parity (part_bytes z c.args.image.now p)))
