-- The report by the words that were read is the end of the call.
use Rattle.std.specs.Prelude.{IsUtf8}
use Rattle.report_entry.specs.Words.{text_words}
use Rattle.report_entry.specs.Calls.{given}
use Rattle.report_entry.proofs.Calls.{call_ends}
use Rattle.oopsbox_c.proofs.reporting.report.Goals as goal

pub returns : goal.returns
returns c =
    let r = c.in-Ok.ensures in
    call_ends (IsUtf8 c.args.words.now) (IsUtf8 c.args.words.now) (¬ (IsUtf8 c.args.words.now)) c.report_in.result
    (text_words c.args.words.now) c.deref.result.now c.in-Some.asked
    (given c.args.name.now c.args.format c.args.tree.now c.args.image.now) c.args.text.now c.report_in.new.text
    c.args.answer.now c.report_in.new.answer r.0 r.0 c.in-Some.ensures (rw c.deref.ensures.value r.1)
    c.report_in.ensures
