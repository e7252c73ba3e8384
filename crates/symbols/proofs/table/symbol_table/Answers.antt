-- The sorted functions are the map's in another order, and any order gives each address the same
-- function. For `symbol_table`.
use Rattle.std.proofs.Common.{ap, ◌∙◌}
use Rattle.std.proofs.lemmas.List.Sorted.{All-permutation}
use Rattle.symbol_spec.specs.Functions.{function_in}
use Rattle.symbols.specs.Ranks.{IsInside}
use Rattle.symbols.proofs.Nearest.{reordered}
use Rattle.symbols.proofs.table.symbol_table.Goals as goal

pub invariant_of-result : goal.invariant_of-result
invariant_of-result c = record {
  ranked = c.rank_all.ensures.ranked;
  inside = All-permutation IsInside _ _ c.rank_all.ensures.same c.in_ok-items.ensures.inside;
}

pub returns : goal.returns
returns c = λ address.
    reordered _ _ address c.rank_all.ensures.same
    ∙ ap (λ symbols. function_in symbols address) c.in_ok-items.ensures.value
