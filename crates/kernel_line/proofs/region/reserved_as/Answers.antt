-- The first word that reserves is found. For `reserved_as`.
use Rattle.std.proofs.Common.{◌≡◌, ℕ, codes, Option, Some, None, ap, sym, ◌∙◌}
use Rattle.std.specs.Option.{option_and_then}
use Rattle.kernel_line.specs.Region.{value_behind, size_named}
use Rattle.kernel_line.proofs.Behind.{first_reserves, next_reserves, none_reserves}
use Rattle.kernel_line.proofs.region.reserved_as.Goals as goal

pub returns-in-Some : goal.returns-in-Some
returns-in-Some c =
    first_reserves c.args.name.now c.args.words.now c.loop-word.word-index c.word-item.result c.in-Some.size
    c.loop-word-test.true c.word-item.is c.loop-word.invariant
    (ap (λ w. option_and_then (size_named c.args.name.now) (value_behind (codes "reserve_mem=") w))
    (sym c.as_slice.ensures)
    ∙ sym c.reserved_by.ensures ∙ c.in-Some.is)

pub loop-word-preserved : goal.loop-word-preserved
loop-word-preserved c =
    next_reserves c.args.name.now c.args.words.now c.loop-word.word-index c.word-item.result
    c.loop-word-test.true c.word-item.is c.loop-word.invariant
    (ap (λ w. option_and_then (size_named c.args.name.now) (value_behind (codes "reserve_mem=") w))
    (sym c.as_slice.ensures)
    ∙ sym c.reserved_by.ensures ∙ c.in_default.is)

pub returns : goal.returns
returns c = none_reserves c.args.name.now c.args.words.now c.loop-word.word-index c.loop-word-test.false
    c.loop-word.invariant
