-- A run's bytes are those of the payload at its place; phases of parity have none here. For
-- `give_data`.
use Rattle.std.proofs.Common.{◌+◌, ap, ◌∙◌, sym, subst, take, drop}
use Rattle.zone_spec.specs.Stores.{byte_stores}
use Rattle.store_steps.specs.declared.place.Phase.TheVariants.{First, Second}
use Rattle.store_steps.specs.Flying.{Flying, flying, payload}
use Rattle.store_steps.specs.Machine.{IsParity}
use Rattle.store_steps.proofs.PhaseStores.{ready_in}
use Rattle.store_steps.proofs.HandOut.{first_given, second_given}
use Rattle.store_steps.proofs.steps.Steps.give_data.Goals as goal

pub returns-in-First-clause-stores : goal.returns-in-First-clause-stores
returns-in-First-clause-stores c = λ image.
    let f : Flying = flying c.args.self.now c.args.line.now c.args.payload.now in
    c.give_payload.ensures.stores ∙ first_given f image c.args.count c.in-First.is
    (ready_in f c.args.count First c.in-First.is c.requires.ready)

pub returns-in-Second-clause-stores : goal.returns-in-Second-clause-stores
returns-in-Second-clause-stores c = λ image.
    let f : Flying = flying c.args.self.now c.args.line.now c.args.payload.now in
    c.give_payload-in-Second.ensures.stores
    ∙ ap (λ k. byte_stores (12 + f.place.number) (take c.args.count (drop (k + f.place.number) (payload f))))
    c.first_len-first.ensures
    ∙ second_given f image c.args.count c.in-Second.is
    (ready_in f c.args.count Second c.in-Second.is c.requires.ready) c.requires.some

pub returns-in-FirstParity-clause-stores : goal.returns-in-FirstParity-clause-stores
returns-in-FirstParity-clause-stores c = absurd (c.requires.data (subst IsParity (sym c.in-FirstParity.is) tt))

pub returns-in-FirstParity-clause-inside : goal.returns-in-FirstParity-clause-inside
returns-in-FirstParity-clause-inside c = absurd (c.requires.data (subst IsParity (sym c.in-FirstParity.is) tt))

pub returns-in-SecondParity-clause-stores : goal.returns-in-SecondParity-clause-stores
returns-in-SecondParity-clause-stores c = absurd (c.requires.data (subst IsParity (sym c.in-SecondParity.is) tt))

pub returns-in-SecondParity-clause-inside : goal.returns-in-SecondParity-clause-inside
returns-in-SecondParity-clause-inside c = absurd (c.requires.data (subst IsParity (sym c.in-SecondParity.is) tt))

pub returns-in-Header-clause-stores : goal.returns-in-Header-clause-stores
returns-in-Header-clause-stores c = absurd (c.requires.data (subst IsParity (sym c.in-Header.is) tt))

pub returns-in-Header-clause-inside : goal.returns-in-Header-clause-inside
returns-in-Header-clause-inside c = absurd (c.requires.data (subst IsParity (sym c.in-Header.is) tt))
