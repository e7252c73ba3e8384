-- The lines so far were given, and none failed. For the loop of `put_coloured`.
use Rattle.std.proofs.Common.{◌≡◌, length}
use Rattle.report_colours.proofs.Pieces.{IsGiven}
use Rattle.report_colours.proofs.sink.put_coloured.Given as goal

abbrev pub invariant-lines : goal.invariant-lines
invariant-lines g l = IsGiven (g.W.Sink.given l.initial.out) (g.W.Sink.given l.out) l.text l.rest
    × (g.W.Sink.faults l.out ≡ g.W.Sink.faults l.initial.out)

abbrev pub decreases-lines : goal.decreases-lines
decreases-lines g l = length l.rest
