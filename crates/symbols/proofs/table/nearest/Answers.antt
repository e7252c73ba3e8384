-- The last of the functions at or below an address is the one that the address is of; with none
-- below there is none. For `nearest`.
use Rattle.std.proofs.Common.{ℕ, ◌-◌, List, get_or, arith}
use Rattle.std.proofs.lemmas.List.{get_or_default}
use Rattle.symbol_spec.specs.declared.Symbol.{Symbol}
use Rattle.symbols.proofs.Nearest.{none_below, last_below}
use Rattle.symbols.proofs.table.nearest.Goals as goal

pub returns-then-count-eq0 : goal.returns-then-count-eq0
returns-then-count-eq0 c =
    none_below c.args.ranked.now c.args.address
    (λ k d h. c.count_below-count.ensures.above k d (omega arith) h)

pub returns-else-count-eq0 : goal.returns-else-count-eq0
returns-else-count-eq0 c =
    let table : List Symbol = c.args.ranked.now in
    let count : ℕ = c.count_below-count.result in
    let none : Symbol = record { address = 0; name = 0 } in
    let last : Symbol = get_or table (count - 1) none in
    last_below table c.args.address count last c.requires (omega arith) c.count_below-count.ensures.within
    c.count_below-count.ensures.below c.count_below-count.ensures.above
    (get_or_default table (count - 1) last none (omega (arith, c.count_below-count.ensures.within)))
