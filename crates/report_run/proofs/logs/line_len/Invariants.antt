-- The first bytes end no line. For the loop of `line_len`.
use Rattle.std.proofs.Common.{◌≡◌, ◌≤◌, ◌-◌, ◌+◌, length, drop}
use Rattle.report_run.specs.Logs.{line_len}
use Rattle.report_run.proofs.logs.line_len.Given as goal

abbrev pub invariant-bytes : goal.invariant-bytes
invariant-bytes l = (l.len ≤ length l.text) × (line_len l.text ≡ l.len + line_len (drop l.len l.text))

abbrev pub decreases-bytes : goal.decreases-bytes
decreases-bytes l = length l.text - l.len
