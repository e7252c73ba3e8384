-- One symbol more, divided by the generator, keeps front and rest a codeword. For `bare_parity`.
use Rattle.std.proofs.Common.{◌≡◌, ℕ, ◌+◌, ◌-◌, length-drop, ◌++◌, List, length, take, sym, ap, ◌∙◌, subst, arith, drop}
use Rattle.std.proofs.Common.{get_or}
use Rattle.std.proofs.lemmas.List.{take_all, length-replicate}
use Rattle.list_laws.proofs.Elements.{get_or-replicate_default}
use Rattle.code_spec.specs.Field.{gf_add, gf_mul}
use Rattle.code_spec.specs.Code.{IsCodeword}
use Rattle.rs_encode.proofs.Steps.{rest_is_parity, symbols_each}
use Rattle.rs_encode.proofs.Bare.{bare_none, bare_step}
use Rattle.rs_encode.proofs.bare_parity.Goals as goal

pub loop-c-init : goal.loop-c-init
loop-c-init c =
    let r : ℕ = length c.args.out.now in
    let zero = c.fill.ensures.after (λ y e. e) in
    record {
      len = ap length zero ∙ length-replicate r 0;
      codeword = subst (IsCodeword r) (sym zero) (bare_none r);
      bytes = λ k. let z : get_or c.fill.new.self k 0 ≡ 0 = ap (λ (w : List ℕ). get_or w k 0) zero
          ∙ get_or-replicate_default r k 0 in
          omega (arith, z);
    }

pub loop-c-preserved : goal.loop-c-preserved
loop-c-preserved c =
    let r : ℕ = length c.args.out.now in
    let inv = c.loop-c.invariant in
    let ln : length c.move_rest.new.rest ≡ r = omega (arith, inv.len) in
    let all : List ℕ = c.as_slice.result.now in
    let low : take (length all - 1) (drop 1 all) ≡ drop 1 c.generator_of-generator.result.items =
    take_all (length all - 1) (drop 1 all) (omega (arith, length-drop 1 all)) ∙ ap (drop 1) c.as_slice.ensures.value in
    record {
      len = ln;
      codeword = bare_step r c.loop-c.c-index c.add-factor.result c.generator_of-generator.result.items
          c.args.msg.now c.loop-c.out c.move_rest.new.rest c.generator_of-generator.ensures.generator
          c.generator_of-generator.ensures.len (omega arith) (c.type_inv.msg c.loop-c.c-index).fits inv.len ln
          c.add-factor.ensures
          (λ k b. c.move_rest.ensures k b
          ∙ ap (λ (xs : List ℕ). gf_add (get_or c.loop-c.out (k + 1) 0) (gf_mul c.add-factor.result (get_or xs k 0)))
          low)
          inv.codeword;
      bytes = λ k. (c.type_inv.out k).fits;
    }

pub returns : goal.returns
returns c =
    let r : ℕ = length c.args.out.now in
    rest_is_parity r c.args.msg.now c.loop-c.out c.requires.fits (λ k. (c.type_inv.msg k).fits)
    (symbols_each c.loop-c.out c.loop-c.invariant.bytes) c.loop-c.invariant.len
    (subst (λ (m : List ℕ). IsCodeword r (m ++ c.loop-c.out)) (take_all c.loop-c.c-index c.args.msg.now (omega arith))
    c.loop-c.invariant.codeword)
