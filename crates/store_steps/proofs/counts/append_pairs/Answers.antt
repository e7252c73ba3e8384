-- A full ring keeps its size word, so its append has a pair less. For `append_pairs`.
use Rattle.std.proofs.Common.{arith, ◌≡◌, ◌≢◌, ◌<◌, ◌++◌, ◌∷◌, [], ap, ◌∙◌}
use Rattle.std.proofs.lemmas.Grind.{common_steps}
use Rattle.store_steps.proofs.PairLists.{appends_full, appends_ne}
use Rattle.store_steps.proofs.counts.append_pairs.Goals as goal

pub returns-then-pair-cap-clause-pairs : goal.returns-then-pair-cap-clause-pairs
returns-then-pair-cap-clause-pairs c =
    let full : c.args.pair.size ≡ c.args.cap = grind (arith, common_steps) in
    let some : 0 < c.args.len = grind (arith, common_steps) in
    appends_full c.args.pairs.now.items c.push.new.self.items c.args.pair c.args.cap c.args.len c.push.ensures.items
    full some

pub returns-clause-pairs : goal.returns-clause-pairs
returns-clause-pairs c =
    let less : c.args.pair.size ≢ c.args.cap = λ e. grind (arith, common_steps, e) in
    let some : 0 < c.args.len = grind (arith, common_steps) in
    appends_ne c.args.pairs.now.items c.push-3.new.self.items c.args.pair c.args.cap c.args.len c.min-size.result
    (c.push-3.ensures.items ∙ ap (λ ps. ps ++ record { start = c.args.pair.start; size = c.min-size.result } ∷ [])
    c.push-2.ensures.items) less some c.min-size.ensures
