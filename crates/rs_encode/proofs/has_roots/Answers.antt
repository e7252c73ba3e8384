-- All values of the word are zero exactly when it is a codeword. For `has_roots`.
use Rattle.std.proofs.Common.{◌≡◌, ℕ, List, ◌++◌, length, length-take, sym, ◌∙◌, arith}
use Rattle.code_laws.proofs.Parity.{roots_of, codeword_of}
use Rattle.code_laws.proofs.Symbols.{HasRoots}
use Rattle.rs_encode.proofs.has_roots.Goals as goal

pub returns : goal.returns
returns c =
    let r : ℕ = length c.args.par.now in
    let w : List ℕ = c.args.msg.now ++ c.args.par.now in
    let len : length c.syndromes.new.out ≡ r = omega (arith, c.syndromes.auto.out, length-take {A = ℕ}) in (
      (λ t. codeword_of r w (record {
        at = λ i l. sym (c.syndromes.ensures i (omega (arith, len))) ∙ c.all_zero.ensures.0 t i (omega (arith, len));
      })),
      (λ h.
          let roots : HasRoots r w = roots_of r w h in
          c.all_zero.ensures.1 (λ k l. c.syndromes.ensures k l ∙ roots.at k (omega (arith, len)))),
    )
