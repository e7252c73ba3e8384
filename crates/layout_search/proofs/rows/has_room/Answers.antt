-- With too large a memory, or sizes that do not fit it, there is no layout, whatever the
-- order, the processors, the parity and the tag. For `has_room`.
use Rattle.std.proofs.Common.{◌∙◌, sym}
use Rattle.std.proofs.lemmas.Bool.{lt-ltb}
use Rattle.layout_search.proofs.CandidateFaults.{too_large, no_room}
use Rattle.layout_search.proofs.rows.has_room.Goals as goal

pub returns-then-c-gt-MOST_MEMORY-clause-refused : goal.returns-then-c-gt-MOST_MEMORY-clause-refused
returns-then-c-gt-MOST_MEMORY-clause-refused c = λ h o n r t. too_large
    (record c.args.c.now { order = o; cpus = n; parity = r; tag = t }) (lt-ltb _ _ c.if-c-gt-MOST_MEMORY.true)

pub returns-then-lacks_room-clause-refused : goal.returns-then-lacks_room-clause-refused
returns-then-lacks_room-clause-refused c = λ h o n r t. no_room
    (record c.args.c.now { order = o; cpus = n; parity = r; tag = t }) (sym c.lacks_room.ensures ∙ c.if-lacks_room.true)
