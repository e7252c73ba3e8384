-- The text of all pieces is that of their parts
use Rattle.std.proofs.Common.{◌∙◌, List, ap, arith}
use Rattle.std.specs.Prelude.{flat_map}
use Rattle.std.proofs.lemmas.List.{take_all}
use Rattle.report_html.specs.declared.pieces.Piece.{Piece}
use Rattle.report_html.specs.Pieces.{piece_text}
use Rattle.report_html.proofs.PieceTexts.{rendered}
use Rattle.report_html.proofs.pieces.render.Goals as goal

pub returns : goal.returns
returns c =
    c.loop-piece.invariant
    ∙ ap (λ (ps : List Piece). flat_map (piece_text c.args.origin) ps)
    (take_all c.loop-piece.piece-index c.args.pieces.now (let past = c.loop-piece-test.false in omega (arith, past)))
    ∙ rendered c.args.origin c.args.pieces.now
