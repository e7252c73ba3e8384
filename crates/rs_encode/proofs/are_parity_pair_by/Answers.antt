-- The lanes of each message hold its parity exactly when it is a codeword with it. For
-- `are_parity_pair_by`.
use Rattle.std.proofs.Common.{ℕ, List, ◌∷◌, [], length, refl, arith}
use Rattle.rs_encode.specs.Lanes.{IsTable}
use Rattle.rs_encode.proofs.Steps.{lanes_codeword, codeword_lanes, table_lent}
use Rattle.rs_encode.proofs.are_parity_pair_by.Goals as goal

table : (c : goal.After-has_lanes-is_b) → IsTable (length c.args.par_a.now) c.args.rows.now
table c = table_lent (length c.args.par_a.now) c.args.rows.now c.is_empty.result c.requires.table c.is_empty.ensures
    c.if-not-is_empty.true

pub returns-then-par_a-le16-clause-a : goal.returns-then-par_a-le16-clause-a
returns-then-par_a-le16-clause-a c =
    let r : ℕ = length c.args.par_a.now in
    let lanes : List ℕ = c.rest_pair-rests.result.0 ∷ [] in
    let rest = c.rest_pair-rests.ensures.a r (omega arith) (table c) in (
      (λ t. lanes_codeword r c.args.a.now lanes c.args.par_a.now refl rest (c.has_lanes-is_a.ensures.0 t)),
      (λ w. c.has_lanes-is_a.ensures.1 (codeword_lanes r c.args.a.now lanes c.args.par_a.now c.requires.fits
          (λ k. (c.type_inv.a k).fits) (λ k. (c.type_inv.par_a k).fits) refl rest w)),
    )

pub returns-then-par_a-le16-clause-b : goal.returns-then-par_a-le16-clause-b
returns-then-par_a-le16-clause-b c =
    let r : ℕ = length c.args.par_a.now in
    let lanes : List ℕ = c.rest_pair-rests.result.1 ∷ [] in
    let rest = c.rest_pair-rests.ensures.b r (omega arith) (table c) in (
      (λ t. lanes_codeword r c.args.b.now lanes c.args.par_b.now c.requires.same_par rest
          (c.has_lanes-is_b.ensures.0 t)),
      (λ w. c.has_lanes-is_b.ensures.1 (codeword_lanes r c.args.b.now lanes c.args.par_b.now (omega arith)
          (λ k. (c.type_inv.b k).fits) (λ k. (c.type_inv.par_b k).fits) c.requires.same_par rest w)),
    )
