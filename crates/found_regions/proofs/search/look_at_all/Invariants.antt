-- The pages so far were looked at, and no read failed. For the loop of `look_at_all`.
use Rattle.std.proofs.Common.{◌≡◌}
use Rattle.found_regions.proofs.Pages.{GoesOn}
use Rattle.found_regions.proofs.search.look_at_all.Given as goal

abbrev pub invariant-loop-page : goal.invariant-loop-page
invariant-loop-page g l =
    GoesOn l.known (g.M.Load.holds l.initial.memory) l.pages l.page-index l.search
    × (g.M.Load.holds l.memory ≡ g.M.Load.holds l.initial.memory)
    × (g.M.Load.faults l.memory ≡ g.M.Load.faults l.initial.memory)
