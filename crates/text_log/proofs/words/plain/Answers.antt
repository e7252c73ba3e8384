-- A piece is passed over, and where there is none the rest is what the line says. For `plain`.
use Rattle.std.proofs.Common.{◌≡◌, ◌<◌, ◌-◌, sym, ap, ◌∙◌, arith, drop}
use Rattle.text_log_spec.specs.Words.{behind_pieces}
use Rattle.text_log.proofs.Pieces.{no_piece, one_piece, pieces_done}
use Rattle.text_log.proofs.words.plain.Goals as goal

pub returns-then-len-eq0 : goal.returns-then-len-eq0
returns-then-len-eq0 c =
    sym (c.pieces.invariant
    ∙ no_piece c.pieces.left c.pieces.rest.now (sym c.piece_len-len.ensures ∙ c.if-len-eq0.true))

pub pieces-preserved : goal.pieces-preserved
pieces-preserved c =
    let more : 0 < c.pieces.left = omega arith in
    c.pieces.invariant
    ∙ one_piece c.pieces.left c.pieces.rest.now more (λ e. c.if-len-eq0.false (c.piece_len-len.ensures ∙ e))
    ∙ ap (behind_pieces (c.pieces.left - 1))
    (ap (λ k. drop k c.pieces.rest.now) (sym c.piece_len-len.ensures) ∙ sym c.tail-rest.ensures)

pub returns : goal.returns
returns c =
    let none : c.pieces.left ≡ 0 = omega arith in
    sym (c.pieces.invariant ∙ ap (λ n. behind_pieces n c.pieces.rest.now) none ∙ pieces_done c.pieces.rest.now)
