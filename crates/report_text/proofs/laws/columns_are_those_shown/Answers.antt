-- A byte takes as many columns as it is shown with. By `Cuts`.
use Rattle.report_text.proofs.Cuts.{shown-width}
use Rattle.report_text.proofs.laws.columns_are_those_shown.Goals as goal

pub returns : goal.returns
returns c = shown-width
