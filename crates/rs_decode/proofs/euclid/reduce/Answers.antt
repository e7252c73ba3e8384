-- One coefficient of the quotient more clears the leading symbol and keeps the room of the factor.
-- For the loop of `reduce`.
use Rattle.std.proofs.Common.{ℕ, ◌+◌, ◌-◌, ◌<◌, List, length, ap, ◌∙◌, subst, arith}
use Rattle.code_spec.specs.Field.{gf_mul}
use Rattle.decoder_laws.specs.Series.{scale, shift, one}
use Rattle.decoder_laws.specs.Polynomials.{poly}
use Rattle.decoder_laws.proofs.Euclid.{step_none, step_more}
use Rattle.decoder_laws.proofs.Polynomials.{fewer_zeros, poly-add_shifted, poly-bytes}
use Rattle.rs_decode.proofs.Rows.{cleared, room_kept}
use Rattle.rs_decode.proofs.euclid.reduce.Goals as goal

pub loop-k-init : goal.loop-k-init
loop-k-init c = record {
  step = step_none (poly c.args.old_rest.now) (poly c.args.old_factor.now) (poly c.args.new_rest.now)
      (poly c.args.new_factor.now);
  zeros = c.requires.old_zeros;
  room = fewer_zeros (length c.args.new_factor.now + 14 - c.args.to) (length c.args.new_factor.now + 14 - c.args.from)
      c.args.old_factor.now (omega arith) c.requires.old_room;
}

pub loop-k-preserved : goal.loop-k-preserved
loop-k-preserved c =
    let k : ℕ = c.loop-k.k in
    let d : ℕ = c.args.to - k in
    let f : ℕ = c.mul-factor.result in
    let n : List ℕ = c.add_shifted.new.word in
    let m : List ℕ = c.loop-k.old_rest in
    let b : List ℕ = c.args.new_rest.now in
    let n' : List ℕ = c.add_shifted-in-loop-k.new.word in
    let m' : List ℕ = c.loop-k.old_factor in
    let b' : List ℕ = c.args.new_factor.now in
    let z : ℕ = length b' + 14 - c.args.to in
    let z' : ℕ = length b' + 14 - c.args.from in
    record {
      step = step_more (poly c.args.old_rest.now) (poly c.args.old_factor.now) (poly b) (poly b') (poly m) (poly m')
          (poly n) (poly n') (scale f (shift d one)) c.loop-k.invariant.step
          (poly-add_shifted d f n m b (omega arith) (omega arith) (omega arith)
          (fewer_zeros d c.args.to b (omega arith) c.requires.new_zeros)
          (poly-bytes b (λ i. (c.type_inv.new_rest i).fits)) c.add_shifted.ensures)
          (poly-add_shifted d f n' m' b' (omega arith) (omega arith) (omega arith)
          (fewer_zeros d z' b' (omega arith) c.requires.new_room)
          (poly-bytes b' (λ i. (c.type_inv.new_factor i).fits)) c.add_shifted-in-loop-k.ensures);
      zeros = cleared k c.args.to f c.inv-inverse.result n m b c.loop-k.invariant.zeros c.requires.new_zeros
          (omega arith) (omega arith) (subst (λ (x : ℕ). x < 256) c.symbol.ensures c.symbol.type_inv)
          c.inv-inverse.ensures (c.mul-factor.ensures ∙ ap (λ (x : ℕ). gf_mul x c.inv-inverse.result) c.symbol.ensures)
          c.add_shifted.ensures;
      room = room_kept d z f n' m' b' c.loop-k.invariant.room
          (fewer_zeros (z + d) z' b' (omega arith) c.requires.new_room) (omega arith) c.add_shifted-in-loop-k.ensures;
    }
