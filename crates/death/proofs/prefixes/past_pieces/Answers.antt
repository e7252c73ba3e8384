-- A piece is passed over, and where there is none the front ends. For `past_pieces`.
use Rattle.std.proofs.Common.{◌≡◌, ◌<◌, ◌+◌, ◌-◌, length, drop, length-drop, sym, ap, ◌∙◌, arith}
use Rattle.death_spec.specs.Fronts.{piece_len, past_pieces}
use Rattle.death.proofs.Pieces.{pieces_end, pieces_next, pieces_done}
use Rattle.death.proofs.prefixes.past_pieces.Goals as goal

pub returns-then-len-eq0-clause-past : goal.returns-then-len-eq0-clause-past
returns-then-len-eq0-clause-past c =
    let len = c.piece_len-len.ensures.len ∙ ap (piece_len c.args.is_first) c.tail.ensures in
    sym (c.pieces.invariant.1
    ∙ pieces_end c.args.is_first c.pieces.left c.args.text.now c.pieces.at (omega (arith, c.pieces-test.true))
    (sym len ∙ c.if-len-eq0.true))

pub pieces-preserved : goal.pieces-preserved
pieces-preserved c =
    let len = c.piece_len-len.ensures.len ∙ ap (piece_len c.args.is_first) c.tail.ensures in (
      omega (
        arith,
        c.pieces.invariant.0,
        c.piece_len-len.ensures.within,
        ap length c.tail.ensures,
        length-drop c.pieces.at c.args.text.now,
      ),
      c.pieces.invariant.1
          ∙ pieces_next c.args.is_first c.pieces.left c.args.text.now c.pieces.at (omega (arith, c.pieces-test.true))
          (λ e. c.if-len-eq0.false (len ∙ e))
          ∙ ap (λ k. past_pieces c.args.is_first (c.pieces.left - 1) c.args.text.now (c.pieces.at + k)) (sym len),
    )

pub returns-clause-past : goal.returns-clause-past
returns-clause-past c =
    let none : c.pieces.left ≡ 0 = omega (arith, c.pieces-test.false) in
    sym (c.pieces.invariant.1
    ∙ ap (λ n. past_pieces c.args.is_first n c.args.text.now c.pieces.at) none
    ∙ pieces_done c.args.is_first c.args.text.now c.pieces.at)
