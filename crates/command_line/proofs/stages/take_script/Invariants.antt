-- The bytes so far are what the source gave, at most the limit, with no fault. For the loop of
-- `take_script`.
use Rattle.std.proofs.Common.{◌≡◌, ◌≤◌, ◌+◌, ◌-◌}
use Rattle.command_spec.specs.Commands.{script_limit}
use Rattle.command_line.specs.Stages.{TakesSoFar}
use Rattle.command_line.proofs.stages.take_script.Given as goal

abbrev pub invariant-pieces : goal.invariant-pieces
invariant-pieces g l = (l.len ≤ script_limit)
    × TakesSoFar (g.S.Source.left l.initial.script) (g.S.Source.left l.script) l.reading l.len
    × (g.S.Source.faults l.script ≡ g.S.Source.faults l.initial.script)

abbrev pub decreases-pieces : goal.decreases-pieces
decreases-pieces g l = script_limit + 1 - l.len
