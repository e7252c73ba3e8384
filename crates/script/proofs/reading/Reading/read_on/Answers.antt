-- The rest with the piece behind it is read on, and a bad line stays bad. For `Reading::read_on`.
use Rattle.std.proofs.Common.{◌≡◌, ℕ, List, ◌++◌, sym, ap, ◌∙◌, subst}
use Rattle.grammar_spec.specs.declared.line.Line.{Line}
use Rattle.script.specs.declared.reading.ParseFault.{ParseFault}
use Rattle.script.specs.Pieces.{HasRead, IsFaultBehind, ReadingSeen}
use Rattle.script.proofs.Loop.{more_given}
use Rattle.script.proofs.reading.Reading.read_on.Goals as goal

pub returns-in-Err-BadLine : goal.returns-in-Err-BadLine
returns-in-Err-BadLine c = λ given h.
    let r : ReadingSeen = c.args.self.now in
    let text : c.deref.result.now ≡ r.rest ++ c.args.piece.now = c.deref.ensures.value
    ∙ c.in_ok-extend_from_slice.ensures.items
    ∙ ap (λ (x : ReadingSeen). x.rest ++ c.args.piece.now) c.self.view_is in
    let lines : c.self.inside.lines.items ≡ r.lines = ap (λ (x : ReadingSeen). x.lines) c.self.view_is in
    subst (λ (fault : ParseFault). IsFaultBehind fault (given ++ c.args.piece.now)) c.in-Err-BadLine.field-0-is
    (c.in-Err-BadLine.ensures.read (given ++ c.args.piece.now)
    (subst (λ (xs : List ℕ). HasRead (given ++ c.args.piece.now) c.self.inside.lines.items xs) (sym text)
    (subst (λ (ls : List Line). HasRead (given ++ c.args.piece.now) ls (r.rest ++ c.args.piece.now)) (sym lines)
    (more_given given c.args.piece.now r.rest r.lines h))))
