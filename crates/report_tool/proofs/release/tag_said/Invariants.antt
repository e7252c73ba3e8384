-- The bytes that are left decide. For the loop of `tag_said`.
use Rattle.std.proofs.Common.{◌≡◌, drop, true}
use Rattle.report_tool.specs.Releases.{tag_from}
use Rattle.report_tool.proofs.release.tag_said.Given as goal

abbrev pub invariant-loop-i : goal.invariant-loop-i
invariant-loop-i l = tag_from true l.bytes ≡ tag_from l.begins (drop l.i l.bytes)
