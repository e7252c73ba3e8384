-- What is counted, and what is left, is all; the count is small. For the loop of `falls`.
use Rattle.std.proofs.Common.{◌≡◌, ◌+◌, ◌≤◌, drop, map}
use Rattle.ftrace_zone.specs.EntryBytes.{entry_bytes}
use Rattle.ftrace_spec.specs.Forms.{falls_after}
use Rattle.ftrace_text.proofs.forms.falls.Given as goal

abbrev pub invariant-loop-entry : goal.invariant-loop-entry
invariant-loop-entry l = record {
  counted : l.count + falls_after l.last (map entry_bytes (drop l.entry-index l.all))
      ≡ falls_after 0 (map entry_bytes l.all);
  few : l.count ≤ l.entry-index;
}
