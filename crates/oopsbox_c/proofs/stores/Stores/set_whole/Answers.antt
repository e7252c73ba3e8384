-- The words and the runs lie inside the zone and the payload. For `set_whole`.
use Rattle.std.proofs.Common.{arith}
use Rattle.oopsbox_c.proofs.stores.Stores.set_whole.Goals as goal

pub returns-clause-inside : goal.returns-clause-inside
returns-clause-inside c = λ size line payload within.
    c.push_runs.ensures.inside size line payload
    (c.push_word.ensures.inside size line payload (c.set_size.ensures.inside size line payload within.words)
    (omega (arith, within.words)))
    within
