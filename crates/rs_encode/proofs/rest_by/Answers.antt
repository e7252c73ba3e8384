-- One symbol more makes the lanes the rest of the message so far. For the loop of `rest_by`.
use Rattle.std.proofs.Common.{ℕ, List, ◌∷◌, [], get_or, take, refl, sym, subst, arith}
use Rattle.rs_encode.specs.Lanes.{IsRest}
use Rattle.std.proofs.lemmas.List.{take_all, take_more}
use Rattle.list_laws.proofs.Elements.{get_or-replicate_default}
use Rattle.rs_encode.proofs.Steps.{moved_all, rest_after, rest_none}
use Rattle.rs_encode.proofs.rest_by.Goals as goal

pub loop-c-init : goal.loop-c-init
loop-c-init c = record {
  len = refl;
  fits = λ j. omega (arith, get_or-replicate_default {A = ℕ} 9 j 0);
  rest = λ r more enough few t. rest_none r (0 ∷ 0 ∷ 0 ∷ 0 ∷ 0 ∷ 0 ∷ 0 ∷ 0 ∷ 0 ∷ [])
      (λ k. get_or-replicate_default 9 k 0);
}

pub loop-c-preserved : goal.loop-c-preserved
loop-c-preserved c =
    let i : ℕ = c.loop-c.c-index in
    let m : List ℕ = c.args.msg.now in
    let f : ℕ = c.add-factor.result in
    let new : List ℕ = c.move_lanes.new.lanes in
    record {
      len = omega arith;
      fits = c.move_lanes.ensures.fits;
      rest = λ r more enough few t. subst (λ (u : List ℕ). IsRest r u new) (sym (take_more m i 0 (omega arith)))
          (rest_after r (get_or m i 0) f t.generator (take i m) c.loop-c.lanes new t.is_generator
          t.len (c.type_inv.msg i).fits c.loop-c.invariant.fits
          c.add-factor.ensures (moved_all r f c.args.count t.generator c.args.rows.now c.loop-c.lanes new
          c.add-factor.type_inv enough few (λ j l. t.low more j l)
          (λ j l. t.high more j l) c.move_lanes.ensures.moved c.move_lanes.ensures.rest)
          (c.loop-c.invariant.rest r more enough few t));
    }

pub returns : goal.returns
returns c = λ r more enough few t.
    subst (λ (m : List ℕ). IsRest r m c.loop-c.lanes) (take_all c.loop-c.c-index c.args.msg.now (omega arith))
    (c.loop-c.invariant.rest r more enough few t)
