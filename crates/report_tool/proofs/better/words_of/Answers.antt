-- The words are those of the layout, by its report. For `words_of`.
use Rattle.report_tool.proofs.BetterWords.{judged}
use Rattle.report_tool.proofs.better.words_of.Goals as goal

pub returns : goal.returns
returns c =
    judged c.args.plan.now c.args.report.now c.args.candidate.now c.args.image.now c.in-Ok.other c.in_ok-told.told
    c.in_ok-is_better.is_better c.in-Ok.ensures c.in_ok-told.ensures c.in_ok-is_better.ensures c.words_if.result
    c.words_if.ensures
