-- Two lanes hold the rests of both messages, which are their parities. For `parity_pair_by`.
use Rattle.std.proofs.Common.{◌≡◌, ℕ, ◌∷◌, [], length, subst, arith}
use Rattle.rs_encode.specs.Lanes.{IsTable}
use Rattle.rs_encode.proofs.Steps.{parity_from, table_lent}
use Rattle.rs_encode.proofs.parity_pair_by.Goals as goal

pub returns-then-out_a-le16-clause-a : goal.returns-then-out_a-le16-clause-a
returns-then-out_a-le16-clause-a c =
    let r : ℕ = length c.args.out_a.now in
    parity_from r c.args.a.now (c.rest_pair-rests.result.0 ∷ []) c.write_lanes.new.out c.requires.fits
    (λ k. (c.type_inv.a k).fits) (λ k. (c.type_inv.out_a k).fits) (omega arith)
    (c.rest_pair-rests.ensures.a r (omega arith) (table_lent r c.args.rows.now c.is_empty.result c.requires.table
    c.is_empty.ensures c.if-not-is_empty.true)) c.write_lanes.ensures

pub returns-then-out_a-le16-clause-b : goal.returns-then-out_a-le16-clause-b
returns-then-out_a-le16-clause-b c =
    let r : ℕ = length c.args.out_b.now in
    let table : IsTable r c.args.rows.now = subst (λ (n : ℕ). IsTable n c.args.rows.now)
    (let e : length c.args.out_a.now ≡ r = omega arith in e)
    (table_lent (length c.args.out_a.now) c.args.rows.now c.is_empty.result c.requires.table
    c.is_empty.ensures c.if-not-is_empty.true) in
    parity_from r c.args.b.now (c.rest_pair-rests.result.1 ∷ []) c.write_lanes-then-out_a-le16.new.out
    (omega arith) (λ k. (c.type_inv.b k).fits) (λ k. (c.type_inv.out_b k).fits) (omega arith)
    (c.rest_pair-rests.ensures.b r (omega arith) table) c.write_lanes-then-out_a-le16.ensures
