-- The text is the lines of the entries so far. For the loop of `shown_lines`.
use Rattle.std.proofs.Common.{◌≡◌, take}
use Rattle.pmsg_spec.specs.Lines.{lines_text}
use Rattle.pmsg.proofs.shown.shown_lines.Given as goal

abbrev pub invariant-loop-entry : goal.invariant-loop-entry
invariant-loop-entry l = l.out.items ≡ lines_text l.bytes (take l.entry-index l.entries)
