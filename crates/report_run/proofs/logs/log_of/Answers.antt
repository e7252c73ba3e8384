-- The bytes that are read are the last of the log. For `log_of`.
use Rattle.std.proofs.Common.{◌∙◌, ◌-◌, ap, arith}
use Rattle.report_run.proofs.LogEnds.{log_held}
use Rattle.report_run.proofs.logs.log_of.Goals as goal

pub returns-clause-held : goal.returns-clause-held
returns-clause-held g c =
    log_held (g.M.Load.holds c.args.image.now) (g.M.Load.holds c.size.new.self) c.in-Ok.size c.saturating_sub.result
    c.saturating_sub-base.result c.in-Ok-window.bytes.items c.in_ok-text.text.items c.in_ok-log.log c.in-Ok.ensures.same
    c.saturating_sub.ensures c.in_ok-text.ensures
    (c.saturating_sub-base.ensures ∙ ap (λ n. c.in-Ok.size - n) (c.len.ensures ∙ omega (arith, c.in_ok-text.text.ok.0))) c.in-Ok.ensures.bytes
    c.in-Ok-window.ensures.ok c.in_ok-log.ensures
