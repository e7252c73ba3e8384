-- One row more, or none
use Rattle.std.proofs.Common.{◌≡◌, ◌∙◌, ◌&&◌, nat_lt, Bool, List, length, ap}
use Rattle.std.proofs.lemmas.Result.{on_ok_weaker}
use Rattle.report_html.specs.declared.causes.Crash.{Crash}
use Rattle.report_html.specs.Causes.{has_no_row, crash_in, crashes_in}
use Rattle.report_html.proofs.Rows.{row-more}
use Rattle.report_html.proofs.causes.push_row.Goals as goal

pub returns : goal.returns
returns c =
    let new : List Crash → Bool = λ cs.
    nat_lt (length (crashes_in cs)) 15 && has_no_row (crashes_in cs) (crash_in c.args.crash.now) in
    let test : c.is_new-is_new.result ≡ new c.args.rows.now.items = c.is_new-is_new.ensures ∙ ap new c.as_slice.ensures.value in
    on_ok_weaker c.keep.result
    (λ e fs are. row-more (crashes_in c.args.rows.now.items) (crashes_in c.keep.new.kept.items) fs
    (crash_in c.args.crash.now) c.is_new-is_new.result test e are) c.keep.ensures
