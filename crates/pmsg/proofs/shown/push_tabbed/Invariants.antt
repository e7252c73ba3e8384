-- The bytes so far are appended, with a tab after each newline. For the loop of `push_tabbed`.
use Rattle.std.proofs.Common.{◌≡◌, ◌++◌, take}
use Rattle.pmsg_spec.specs.Lines.{tabbed}
use Rattle.pmsg.proofs.shown.push_tabbed.Given as goal

abbrev pub invariant-loop-b : goal.invariant-loop-b
invariant-loop-b l = l.out.items ≡ l.initial.out.items ++ tabbed (take l.b-index l.bytes)
