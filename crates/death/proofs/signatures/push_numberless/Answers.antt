-- A byte adds what is shown of it, and behind the last one nothing is left. For `push_numberless`.
use Rattle.std.proofs.Common.{◌++◌, get_or, sym, ap, ◌∙◌, drop, arith, ◌+◌}
use Rattle.death_spec.specs.Signatures.{piece_of, shown_as, numberless}
use Rattle.death.proofs.Names.{numberless_more, numberless_none}
use Rattle.death.proofs.signatures.push_numberless.Goals as goal

pub loop-b-preserved : goal.loop-b-preserved
loop-b-preserved c =
    c.loop-b.invariant
    ∙ numberless_more c.loop-b.before c.args.text.now c.loop-b.signature.items c.loop-b.b-index c.loop-b-test.true
    ∙ ap (λ p. (c.loop-b.signature.items ++ shown_as c.loop-b.before p (get_or c.args.text.now c.loop-b.b-index 0))
    ++ numberless p (drop (c.loop-b.b-index + 1) c.args.text.now)) (sym c.piece_of-piece.ensures)
    ∙ ap (λ out. out ++ numberless c.piece_of-piece.result (drop (c.loop-b.b-index + 1) c.args.text.now))
    (sym c.in_ok-push_shown.ensures)

pub returns : goal.returns
returns c =
    sym (c.loop-b.invariant
    ∙ numberless_none c.loop-b.before c.args.text.now c.loop-b.signature.items c.loop-b.b-index
    (omega (arith, c.loop-b-test.false)))
