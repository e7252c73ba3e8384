-- The runs lie inside the zone and the payload, and one alone is all of it. For `push_runs`.
use Rattle.std.proofs.Common.{◌≡◌, ℕ, ◌+◌, List, ◌++◌, take, drop, sym, ap, ◌∙◌, arith, append-nil}
use Rattle.zone_spec.specs.Stores.{Store, byte_stores}
use Rattle.oopsbox_c.specs.Stores.{stores_in}
use Rattle.oopsbox_c.proofs.stores.Stores.push_runs.Goals as goal

pub returns-then-whole-gt0-clause-inside : goal.returns-then-whole-gt0-clause-inside
returns-then-whole-gt0-clause-inside c = λ size line payload are within.
    c.push_payload-then-whole-gt0.ensures.inside size line payload
    (c.push_payload.ensures.inside size line payload are within.some within.first (omega (arith, within.bytes)))
    (omega (arith, c.if-whole-gt0.true)) within.second (omega (arith, within.bytes, c.from.ensures))

pub returns-else-whole-gt0-clause-stores : goal.returns-else-whole-gt0-clause-stores
unfolding byte_stores
returns-else-whole-gt0-clause-stores c = λ line payload.
    let whole = c.args.whole.now in
    let front : List Store = byte_stores whole.place (take whole.first (drop whole.from payload)) in
    let none : whole.second ≡ 0 = omega (arith, c.if-whole-gt0.false) in
    c.push_payload.ensures.stores line payload
    ∙ ap (λ (ss : List Store). stores_in c.args.self.now line payload ++ ss)
    (sym (append-nil front)
    ∙ ap (λ (n : ℕ). front ++ byte_stores 12 (take n (drop (whole.from + whole.first) payload))) (sym none))

pub returns-else-whole-gt0-clause-inside : goal.returns-else-whole-gt0-clause-inside
returns-else-whole-gt0-clause-inside c = λ size line payload are within.
    c.push_payload.ensures.inside size line payload are within.some within.first (omega (arith, within.bytes))
