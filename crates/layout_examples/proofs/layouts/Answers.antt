-- The rows on layouts compute. By `Worked`.
use Rattle.layout_examples.proofs.Worked.{shown, tag}
use Rattle.layout_examples.proofs.layouts.Goals as goal

pub returns-clause-shown : goal.returns-clause-shown
returns-clause-shown c = shown

pub returns-clause-tag : goal.returns-clause-tag
returns-clause-tag c = tag
