-- Each stream takes bytes from the rest, so the loop of `all_lines` ends.
use Rattle.std.proofs.Common.{length}
use Rattle.inflate_streams.proofs.all_lines.Given as goal

abbrev pub decreases-loop-rest : goal.decreases-loop-rest
decreases-loop-rest g l = length l.rest
