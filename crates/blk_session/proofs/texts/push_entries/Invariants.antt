-- The text so far, and the lines of the records that are left, are the text of all records. For
-- the loop of `push_entries`.
use Rattle.std.proofs.Common.{◌≡◌, ◌++◌, drop, flat_map}
use Rattle.blk_session.specs.Texts.{entry_text}
use Rattle.blk_session.proofs.texts.push_entries.Given as goal

-- the text so far, and then the lines of the records that are left
abbrev pub invariant-loop-name : goal.invariant-loop-name
invariant-loop-name l = l.text.items ++ flat_map (entry_text l.blk) (drop l.name-index l.names)
    ≡ l.initial.text.items ++ flat_map (entry_text l.blk) l.names
