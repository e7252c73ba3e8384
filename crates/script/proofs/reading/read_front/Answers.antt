-- One line more is read, and a bad one is the fault. For `read_front`.
use Rattle.std.proofs.Common.{ap, ◌+◌, ◌∙◌}
use Rattle.script.proofs.Loop.{one_more, fault_of_line}
use Rattle.script.proofs.reading.read_front.Goals as goal

pub returns-in-Err-clause-read : goal.returns-in-Err-clause-read
returns-in-Err-clause-read c = λ given h.
    fault_of_line given c.loop-line.rest.now c.in-Some.line.now c.in-Some.after.now c.loop-line.lines.items
    c.in_ok-number.number c.in-Err.fault (c.loop-line.invariant given h) c.in-Some.ensures.further
    (c.in_ok-number.ensures ∙ ap (λ n. n + 1) (c.len.ensures ∙ c.loop-line.lines.ok.0))
    c.in-Err.ensures

pub loop-line-preserved : goal.loop-line-preserved
loop-line-preserved c = λ given h.
    rw c.in_ok-push.ensures.items (one_more given c.loop-line.rest.now c.in-Some.line.now c.in-Some.after.now
    c.loop-line.lines.items c.in-Ok.line (c.loop-line.invariant given h) c.in-Some.ensures.further c.in-Ok.ensures)
