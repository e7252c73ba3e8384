-- The text is the lines of the entries so far. For the loop of `lines_of`.
use Rattle.std.proofs.Common.{◌≡◌, take, map}
use Rattle.std.specs.Prelude.{flat_map}
use Rattle.ftrace_zone.specs.EntryBytes.{entry_bytes}
use Rattle.ftrace_spec.specs.Lines.{line_text}
use Rattle.ftrace_text.proofs.lines.lines_of.Given as goal

abbrev pub invariant-loop-entry : goal.invariant-loop-entry
invariant-loop-entry l =
    l.out.items ≡ flat_map (line_text l.symbols l.shift) (map entry_bytes (take l.entry-index l.entries))
