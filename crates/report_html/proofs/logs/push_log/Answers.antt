-- One line more, and none is left at the end. For `push_log`.
use Rattle.std.proofs.Common.{ℕ, List, ◌++◌, ◌∙◌, ap, sym, append_assoc, append-nil}
use Rattle.std.specs.Prelude.{flat_map}
use Rattle.death_spec.specs.declared.Line.{Line}
use Rattle.death_spec.specs.Lines.{lines_from}
use Rattle.report_html.specs.Logs.{line_text, log_text}
use Rattle.report_html.proofs.logs.push_log.Goals as goal

pub lines-preserved : goal.lines-preserved
lines-preserved c =
    let f : Line → List ℕ = line_text c.args.doubts.now c.args.text.now in
    let line : Line = c.in-Some.line in
    let rest : List ℕ = flat_map f (lines_from c.args.text.now line.next) in
    ap (λ (o : List ℕ). o ++ rest) c.in_ok-push_line.ensures ∙ append_assoc c.lines.out.items (f line) rest
    ∙ ap (λ (ls : List Line). c.lines.out.items ++ flat_map f ls) (sym c.in-Some.ensures.line) ∙ c.lines.invariant

pub returns : goal.returns
unfolding log_text
returns c =
    let f : Line → List ℕ = line_text c.args.doubts.now c.args.text.now in
    sym (append-nil c.lines.out.items)
    ∙ ap (λ (ls : List Line). c.lines.out.items ++ flat_map f ls) (sym c.in_default.ensures.none) ∙ c.lines.invariant
