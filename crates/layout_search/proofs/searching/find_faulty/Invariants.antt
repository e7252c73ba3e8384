-- The best so far is of the family, with its own tally and key, and nothing is lost. For the loop of `find_faulty`.
use Rattle.std.proofs.Common.{◌+◌, ◌-◌, ◌^◌, ◌≤◌, ◌<◌, None}
use Rattle.layout_search.specs.Sights.{AreSeen}
use Rattle.layout_search.specs.Tried.{IsSound, Advances}
use Rattle.layout_search.proofs.searching.find_faulty.Given as goal

-- the best so far is one of the family
abbrev pub invariant-loop-limit : goal.invariant-loop-limit
invariant-loop-limit l = record {
  sound : IsSound l.known l.image None l.state.best;
  advances : Advances l.initial.state l.state;
  seen : AreSeen l.image l.sights;
  some : 0 < l.limit;
  limit : l.limit ≤ 2 ^ 62 + 2 ^ 32;
}

abbrev pub decreases-loop-limit : goal.decreases-loop-limit
decreases-loop-limit l = 2 ^ 62 + 2 ^ 32 - l.limit
