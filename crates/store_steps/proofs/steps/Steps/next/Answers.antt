-- `next` hands out what `next_parity` or `next_data` does, and stands for the same bytes.
use Rattle.std.proofs.Common.{◌≡◌, false, true, sym, ◌∙◌, arith}
use Rattle.store_steps.proofs.steps.Steps.next.Goals as goal

pub returns-then-is_parity-clause-handed : goal.returns-then-is_parity-clause-handed
returns-then-is_parity-clause-handed c = λ now before alike stands.
    c.next_parity.ensures.handed now before (alike.parity (c.is_parity.ensures.0 c.if-is_parity.true)) stands

pub returns-then-is_parity-clause-stands : goal.returns-then-is_parity-clause-stands
returns-then-is_parity-clause-stands c = λ now before alike stands.
    c.next_parity.ensures.stands now before (alike.bytes (λ i. omega (arith, c.type_inv.image i)))
    (alike.parity (c.is_parity.ensures.0 c.if-is_parity.true)) stands

pub returns-then-is_parity-clause-apart : goal.returns-then-is_parity-clause-apart
returns-then-is_parity-clause-apart c = λ parity now. c.next_parity.ensures.apart now

pub returns-else-is_parity-clause-handed : goal.returns-else-is_parity-clause-handed
returns-else-is_parity-clause-handed c = λ now before alike stands. c.next_data.ensures.handed now before stands

pub returns-else-is_parity-clause-stands : goal.returns-else-is_parity-clause-stands
returns-else-is_parity-clause-stands c = λ now before alike stands.
    c.next_data.ensures.stands now before (alike.bytes (λ i. omega (arith, c.type_inv.image i))) stands

pub returns-else-is_parity-clause-apart : goal.returns-else-is_parity-clause-apart
returns-else-is_parity-clause-apart c = λ parity now.
    absurd (let t : false ≡ true = sym c.if-is_parity.false ∙ c.is_parity.ensures.1 parity in cc)

pub returns-else-is_parity-clause-coming : goal.returns-else-is_parity-clause-coming
returns-else-is_parity-clause-coming c =
    c.next_data.ensures.coming c.args.image.now (λ i. omega (arith, c.type_inv.image i))
