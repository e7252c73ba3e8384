-- Each number is that of its word. For `known`.
use Rattle.report_tool.proofs.finding.known.Goals as goal

pub returns : goal.returns
returns c = cc
