-- The bytes of the lanes are the message's rest, which is its parity. For `table_parity`.
use Rattle.std.proofs.Common.{ℕ, ◌∷◌, [], length, arith}
use Rattle.rs_encode.proofs.Steps.{parity_from}
use Rattle.rs_encode.proofs.table_parity.Goals as goal

pub returns-then-out-le16 : goal.returns-then-out-le16
returns-then-out-le16 c =
    let r : ℕ = length c.args.out.now in
    parity_from r c.args.msg.now (c.rest_in_lane.result ∷ []) c.write_lanes.new.out c.requires.fits
    (λ k. (c.type_inv.msg k).fits) (λ k. (c.type_inv.out k).fits) (omega arith)
    (c.rest_in_lane.ensures r (omega arith) c.requires.table) c.write_lanes.ensures

pub returns-else-out-le16 : goal.returns-else-out-le16
returns-else-out-le16 c =
    let r : ℕ = length c.args.out.now in
    parity_from r c.args.msg.now c.rest_in_lanes.result c.write_lanes-else-out-le16.new.out
    c.requires.fits
    (λ k. (c.type_inv.msg k).fits) (λ k. (c.type_inv.out k).fits) (omega arith) c.rest_in_lanes.ensures
    c.write_lanes-else-out-le16.ensures
