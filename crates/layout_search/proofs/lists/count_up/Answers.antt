-- One number more is the next of the row. For `count_up`.
use Rattle.std.proofs.Common.{◌∙◌, ◌+◌, [], ◌∷◌, ◌++◌, append_assoc, sym, ap}
use Rattle.std.specs.List.{range_with_len}
use Rattle.layout_search.proofs.Ranges.{range_more}
use Rattle.layout_search.proofs.lists.count_up.Goals as goal

pub loop-i-preserved : goal.loop-i-preserved
loop-i-preserved c =
    c.in_ok-push.ensures.items ∙ ap (λ xs. xs ++ (c.args.from + c.loop-i.i) ∷ []) c.loop-i.invariant
    ∙ append_assoc c.args.list.now.items (range_with_len c.args.from c.loop-i.i) ((c.args.from + c.loop-i.i) ∷ [])
    ∙ ap (λ xs. c.args.list.now.items ++ xs) (sym (range_more c.args.from c.loop-i.i))
