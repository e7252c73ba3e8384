-- A name is among the keys exactly when one of them has its bytes. For `contains`.
use Rattle.std.proofs.Common.{◌∙◌, bytes_eq}
use Rattle.ramoops_layout.proofs.WordLaws.{any_seen}
use Rattle.ramoops_layout.proofs.words.Keys.contains.Goals as goal

pub returns : goal.returns
returns c = c.contains.ensures.value ∙ any_seen (λ key. bytes_eq key c.args.name.now) c.args.self.now.names.now
