-- What is left is the sum of the parity at hand and the message's own. For `excess`.
use Rattle.std.proofs.Common.{◌≡◌, ℕ, List, length, get_or, sym, ap, ◌∙◌, arith}
use Rattle.code_spec.specs.Field.{gf_add}
use Rattle.code_spec.specs.Code.{parity_of}
use Rattle.code_laws.proofs.Ring.{one_mul}
use Rattle.rs_decode.proofs.excess.excess.Goals as goal

pub returns : goal.returns
returns c =
    let q : List ℕ = parity_of (length c.args.par.now) c.args.msg.now in
    let made : c.parity_by.new.out ≡ q =
    c.parity_by.ensures ∙ ap (λ (r : ℕ). parity_of r c.args.msg.now) c.requires.len in
    record {
      length_m = omega (arith, c.add_symbols.auto.word, ap length made);
      length_b = omega (arith, c.add_symbols.auto.word, c.parity_by.auto.out, c.requires.len);
      at = λ k l. c.add_symbols.ensures k l
          ∙ ap (λ (u : List ℕ). gf_add (get_or u k 0) (get_or c.args.par.now k 0)) made
          ∙ ap (gf_add (get_or q k 0)) (sym (one_mul (get_or c.args.par.now k 0) (c.type_inv.par k).fits));
    }
