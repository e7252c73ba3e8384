-- What the words from here on say is what all of them say. For the loop of `behind_kernel`.
use Rattle.std.proofs.Common.{◌≡◌}
use Rattle.text_log_spec.specs.Words.{behind_kernel}
use Rattle.text_log.proofs.words.behind_kernel.Given as goal

abbrev pub invariant-words : goal.invariant-words
invariant-words l = behind_kernel 5 l.text l.text ≡ behind_kernel l.left l.text l.rest

abbrev pub decreases-words : goal.decreases-words
decreases-words l = l.left
