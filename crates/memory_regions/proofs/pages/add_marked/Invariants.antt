-- The marked pages so far are added. For the loop of `add_marked`.
use Rattle.std.proofs.Common.{◌≡◌, ◌+◌, ◌++◌, map}
use Rattle.std.specs.List.{range_with_len, filter}
use Rattle.memory_spec.specs.Pages.{is_marked}
use Rattle.memory_regions.proofs.pages.add_marked.Given as goal

abbrev pub invariant-loop-page : goal.invariant-loop-page
invariant-loop-page l = l.pages.items ≡ l.initial.pages.items
    ++ map (λ page. l.first + page) (filter (is_marked l.piece) (range_with_len 0 l.page))
