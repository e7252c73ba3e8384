-- A word without `=` is no key and value. For `split`.
use Rattle.ramoops_layout.proofs.WordLaws.{no_split}
use Rattle.ramoops_layout.proofs.words.Keys.split.Goals as goal

pub returns-in-None : goal.returns-in-None
returns-in-None c = no_split c.args.word.now c.split_once.result c.split_once.ensures.cases c.in-None.is
