-- After the sort the ranks do not fall. For `rank_all`.
use Rattle.std.proofs.Common.{rules}
use Rattle.std.proofs.lemmas.List.Sorted.{IsNonDecreasingBy-from_sort_by_key}
use Rattle.symbols.specs.Ranks.{rank}
use Rattle.symbols.proofs.table.rank_all.Goals as goal

pub returns-clause-ranked : goal.returns-clause-ranked
returns-clause-ranked c =
    IsNonDecreasingBy-from_sort_by_key rank _ c.sort_unstable_by_key.ensures.sorted (λ a r q k. search rules)
