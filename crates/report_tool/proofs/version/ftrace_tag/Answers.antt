-- A text without a point is no version; one with or without a patch has its tag. For `ftrace_tag`.
use Rattle.std.proofs.Common.{◌∙◌}
use Rattle.report_tool.proofs.Tags.{no_point, with_patch, without_patch}
use Rattle.report_tool.proofs.version.ftrace_tag.Goals as goal

pub returns-in_err-major : goal.returns-in_err-major
returns-in_err-major c = rw c.from_residual.ensures
    (no_point c.args.version.now c.release.result.now c.release.ensures c.in_err-major.ensures)

pub returns-in-Some : goal.returns-in-Some
returns-in-Some c = c.code_of.ensures ∙ with_patch c.args.version.now c.release.result.now c.in_ok-major.major.now
    c.in_ok-major.rest.now c.in-Some.minor.now c.in-Some.patch.now c.release.ensures c.in_ok-major.ensures
    c.in-Some.ensures

pub returns-in-None : goal.returns-in-None
returns-in-None c = c.code_of-in-None.ensures ∙ without_patch c.args.version.now c.release.result.now
    c.in_ok-major.major.now c.in_ok-major.rest.now c.release.ensures c.in_ok-major.ensures c.in-None.ensures
