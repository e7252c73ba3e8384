-- What stands after the front, if the text begins with it. For `behind`.
use Rattle.ramoops_layout.proofs.Texts.{behind_front}
use Rattle.ramoops_layout.proofs.numbers.behind.Goals as goal

pub returns : goal.returns
returns c = behind_front c.args.front.now c.args.text.now c.strip_prefix.result c.strip_prefix.ensures.cases
