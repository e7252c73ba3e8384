-- The text so far, and the lines of the records that are left, are all of them. For the loop of
-- `push_entries`.
use Rattle.std.proofs.Common.{◌≡◌, ◌++◌, drop, flat_map}
use Rattle.ram_session.specs.Entries.{entry_text}
use Rattle.ram_session.proofs.texts.records.push_entries.Given as goal

-- the text so far, and then the lines of the records that are left
abbrev pub invariant-loop-entry : goal.invariant-loop-entry
invariant-loop-entry l = l.text.items ++ flat_map entry_text (drop l.entry-index l.entries)
    ≡ l.initial.text.items ++ flat_map entry_text l.entries
