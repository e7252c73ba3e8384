-- The lanes of the rest hold the parity exactly when message and parity are a codeword. For
-- `has_parity`.
use Rattle.std.proofs.Common.{ℕ, List, ◌∷◌, [], length, refl, arith}
use Rattle.rs_encode.proofs.Steps.{lanes_codeword, codeword_lanes}
use Rattle.rs_encode.proofs.has_parity.Goals as goal

pub returns-then-par-le16 : goal.returns-then-par-le16
returns-then-par-le16 c =
    let r : ℕ = length c.args.par.now in
    let lanes : List ℕ = c.rest_in_lane.result ∷ [] in
    let rest = c.rest_in_lane.ensures r (omega arith) c.requires.table in (
      (λ t. lanes_codeword r c.args.msg.now lanes c.args.par.now refl rest (c.has_lanes.ensures.0 t)),
      (λ w. c.has_lanes.ensures.1 (codeword_lanes r c.args.msg.now lanes c.args.par.now c.requires.fits
          (λ k. (c.type_inv.msg k).fits) (λ k. (c.type_inv.par k).fits) refl rest w)),
    )

pub returns-else-par-le16 : goal.returns-else-par-le16
returns-else-par-le16 c =
    let r : ℕ = length c.args.par.now in
    let lanes : List ℕ = c.rest_in_lanes.result in (
      (λ t. lanes_codeword r c.args.msg.now lanes c.args.par.now refl c.rest_in_lanes.ensures
          (c.has_lanes-else-par-le16.ensures.0 t)),
      (λ w. c.has_lanes-else-par-le16.ensures.1 (codeword_lanes r c.args.msg.now lanes c.args.par.now
          c.requires.fits (λ k. (c.type_inv.msg k).fits) (λ k. (c.type_inv.par k).fits) refl
          c.rest_in_lanes.ensures w)),
    )
