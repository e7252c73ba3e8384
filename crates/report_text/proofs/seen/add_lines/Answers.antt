-- One line more, and none is left at the end. For `add_lines`.
use Rattle.std.proofs.Common.{ℕ, List, ◌++◌, ◌∙◌, ap, sym, append_assoc, append-nil}
use Rattle.std.specs.Prelude.{flat_map}
use Rattle.death_spec.specs.declared.Line.{Line}
use Rattle.death_spec.specs.Lines.{lines_from}
use Rattle.report_text.specs.Pieces.{Part, parts}
use Rattle.report_text.specs.Tails.{line_rows, seen_lines}
use Rattle.report_text.proofs.seen.add_lines.Goals as goal

pub lines-preserved : goal.lines-preserved
lines-preserved c =
    let f : Line → List Part = line_rows c.args.tells c.args.doubts.now c.args.text.now in
    let line : Line = c.in-Some.line in
    let rest : List Part = flat_map f (lines_from c.args.text.now line.next) in
    let done : List Part = parts c.lines.pieces.items in
    ap (λ (o : List Part). o ++ rest) c.in_ok-add_line.ensures ∙ append_assoc done (f line) rest
    ∙ ap (λ (ls : List Line). done ++ flat_map f ls) (sym c.in-Some.ensures.line) ∙ c.lines.invariant

pub returns : goal.returns
unfolding seen_lines
returns c =
    let f : Line → List Part = line_rows c.args.tells c.args.doubts.now c.args.text.now in
    let done : List Part = parts c.lines.pieces.items in
    sym (append-nil done)
    ∙ ap (λ (ls : List Line). done ++ flat_map f ls) (sym c.in_default.ensures.none) ∙ c.lines.invariant
