-- The candidates with the tags so far are settled, and the best so far is sound. For the loop of
-- `try_tags`.
use Rattle.std.proofs.Common.{◌<◌, ℕ, get_or}
use Rattle.layout_search.specs.Sights.{AreSeen}
use Rattle.layout_search.specs.Tried.{IsSound, Advances, IsSettled}
use Rattle.layout_search.proofs.tagging.try_tags.Given as goal

-- the candidates with the tags so far are settled
abbrev pub invariant-loop-k : goal.invariant-loop-k
invariant-loop-k l = record {
  advances : Advances l.initial.state l.state;
  settled : (j : ℕ) → j < l.k → IsSettled l.known l.image l.aim (record l.c { tag = get_or l.list j 0 }) l.state;
  sound : IsSound l.known l.image l.aim.besides l.state.best;
  seen : AreSeen l.image l.sights;
}
