-- A line `list` or `extract` prints what is listed and leaves the store as it is. For `show`.
use Rattle.std.proofs.Common.{Some, sym, subst}
use Rattle.std.specs.Prelude.{MatchResult}
use Rattle.grammar_spec.specs.declared.line.Line.{Line}
use Rattle.blk_session.specs.declared.errors.LineError.TheVariants.{Memory}
use Rattle.blk_session.specs.Lines.{LineDone, LineFails}
use Rattle.blk_session.proofs.OtherLines.{list_done, list_memory, extract_ends}
use Rattle.blk_session.proofs.lines.show.Goals as goal

pub returns-in-Ok : goal.returns-in-Ok
returns-in-Ok c = λ store faults.
    subst (λ (line : Line). LineDone c.args.blk.now.layout (Some c.args.blk.now) line (Some c.args.blk.now)
    c.in-Ok.text.items store store) (sym c.in-List.is)
    (list_done c.args.blk.now c.in-Ok.text.items store c.in-Ok.ensures)

pub returns-in-Err : goal.returns-in-Err
returns-in-Err c = λ store faults.
    subst (λ (line : Line). LineFails Memory c.args.blk.now.layout (Some c.args.blk.now) line store store faults
    faults) (sym c.in-List.is) (list_memory c.args.blk.now store faults)

pub returns-in-Extract : goal.returns-in-Extract
returns-in-Extract c = λ store faults.
    subst (λ (line : Line). MatchResult c.extract.result
    (λ text. LineDone c.args.blk.now.layout (Some c.args.blk.now) line (Some c.args.blk.now) text.items store store)
    (λ e. LineFails e c.args.blk.now.layout (Some c.args.blk.now) line store store faults faults)) (sym c.in-Extract.is)
    (extract_ends c.extract.result c.args.blk.now c.in-Extract.name store faults c.extract.ensures)
