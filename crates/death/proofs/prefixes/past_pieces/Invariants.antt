-- What stands behind the pieces from here is what stands behind them all. For the loop of `past_pieces`.
use Rattle.std.proofs.Common.{◌≡◌, ◌≤◌, length}
use Rattle.death_spec.specs.Fronts.{past_pieces}
use Rattle.death.proofs.prefixes.past_pieces.Given as goal

abbrev pub invariant-pieces : goal.invariant-pieces
invariant-pieces l =
    (l.at ≤ length l.text) × (past_pieces l.is_first 8 l.text l.from ≡ past_pieces l.is_first l.left l.text l.at)

abbrev pub decreases-pieces : goal.decreases-pieces
decreases-pieces l = l.left
