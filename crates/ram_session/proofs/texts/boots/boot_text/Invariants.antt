-- The text has the lines of the first `i` zones. For the loop of `boot_text`.
use Rattle.std.proofs.Common.{◌≡◌, take}
use Rattle.prz_read.specs.Saving.{saved}
use Rattle.ram_session.proofs.Sides.{sides, lines_of}
use Rattle.ram_session.proofs.texts.boots.boot_text.Given as goal

abbrev pub invariant-loop-i : goal.invariant-loop-i
invariant-loop-i l = l.text.items ≡ lines_of (take l.i (sides (saved l.logs) l.report))
