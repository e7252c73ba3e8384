-- Nothing is of an empty map
use Rattle.std.proofs.Common.{◌≡◌, ℕ, List, ap, sym, ◌∙◌}
use Rattle.symbol_spec.specs.Maps.{symbols_from, symbols_of}
use Rattle.symbol_spec.specs.Functions.{function_in}
use Rattle.symbols.proofs.named.Symbols.none.Goals as goal

pub invariant_of-result : goal.invariant_of-result
unfolding symbols_from
invariant_of-result c = λ address.
    ap (λ table. function_in table address) c.no_table.ensures
    ∙ ap (λ map. function_in (symbols_of map) address) (sym c.new.ensures.items)
