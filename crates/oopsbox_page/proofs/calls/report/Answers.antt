-- The report by the words that were read is the end of the call.
use Rattle.report_entry.specs.Calls.{given}
use Rattle.report_entry.proofs.Calls.{call_ends}
use Rattle.oopsbox_page.specs.Words.{IsReadable, IsUnreadable, asked_words}
use Rattle.oopsbox_page.proofs.calls.report.Goals as goal

pub returns : goal.returns
returns c =
    let r = c.in-Ok.ensures in
    call_ends (IsReadable c.args.line.now c.args.words.now) (IsReadable c.args.line.now c.args.words.now)
    (IsUnreadable c.args.tree.now c.args.line.now c.args.words.now) c.report_in.result
    (asked_words c.args.tree.now c.args.line.now c.args.words.now) c.deref.result.now c.in-Some.asked
    (given c.args.name.now c.args.format c.args.tree.now c.args.image.now) c.args.text.now c.report_in.new.text
    c.args.answer.now c.report_in.new.answer r.0 r.0 c.in-Some.ensures (rw c.deref.ensures.value r.1)
    c.report_in.ensures
