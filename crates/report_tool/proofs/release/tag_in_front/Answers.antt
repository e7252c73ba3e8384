-- Digits and points are a text. For `tag_in_front`.
use Rattle.report_tool.proofs.VersionWords.{version_is_text}
use Rattle.report_tool.proofs.release.tag_in_front.Goals as goal

pub returns-in-Err : goal.returns-in-Err
returns-in-Err c = absurd (c.in-Err.ensures.cases.0 (rw c.version_in.ensures (version_is_text c.args.bytes.now)))
