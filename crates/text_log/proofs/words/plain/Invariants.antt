-- What stands behind the pieces from here on is what stands behind them all. For the loop of `plain`.
use Rattle.std.proofs.Common.{◌≡◌, length}
use Rattle.text_log_spec.specs.Words.{behind_pieces}
use Rattle.text_log.proofs.words.plain.Given as goal

abbrev pub invariant-pieces : goal.invariant-pieces
invariant-pieces l = behind_pieces (length l.text) l.text ≡ behind_pieces l.left l.rest

abbrev pub decreases-pieces : goal.decreases-pieces
decreases-pieces l = l.left
