-- The text so far, and the lines of the records that are left, are all of them. For the loop of
-- `push_moves`.
use Rattle.std.proofs.Common.{◌≡◌, ◌++◌, drop, flat_map}
use Rattle.ram_session.specs.Entries.{told_text}
use Rattle.ram_session.proofs.texts.moves.push_moves.Given as goal

-- the text so far, and then the lines of the records that are left
abbrev pub invariant-loop-told : goal.invariant-loop-told
invariant-loop-told l = l.text.items ++ flat_map told_text (drop l.told-index l.moves)
    ≡ l.initial.text.items ++ flat_map told_text l.moves
