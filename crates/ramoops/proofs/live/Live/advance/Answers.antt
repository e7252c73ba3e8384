-- `count` stores of the zone's flight take the state on as the session's steps; with no flight the
-- call is idle. For `Live::advance`.
use Rattle.std.proofs.Common.{is_some, sym, ap, ◌∙◌}
use Rattle.machine_spec.specs.ZoneCalls.{stepped}
use Rattle.ramoops.specs.Made.{next_stores}
use Rattle.ramoops.proofs.StepStates.{goes_leaves, made_there, goes_idle}
use Rattle.ramoops.proofs.live.Live.advance.Goals as goal

pub returns-in-None-clause-refused : goal.returns-in-None-clause-refused
returns-in-None-clause-refused c layout mem s stands =
    goes_idle c.args.self.now c.in-Some.i c.args.zone (sym c.in-Some.ensures.place) c.in-Some.ensures.within.0
    (λ z live. stepped z c.args.count live) (c.store.ensures.flies ∙ ap is_some c.in-None.is) layout mem s stands

pub returns-in-Some-store-clause-advanced : goal.returns-in-Some-store-clause-advanced
returns-in-Some-store-clause-advanced c layout mem s stands =
    goes_leaves c.args.self.now c.in-Some.i c.args.zone (sym c.in-Some.ensures.place) c.in-Some.ensures.within.0
    (λ z live. stepped z c.args.count live) c.store.new.self (c.store.ensures.flies ∙ ap is_some c.in-Some-store.is)
    c.store.ensures.stored layout mem s stands

pub returns-in-Some-store-clause-stores : goal.returns-in-Some-store-clause-stores
returns-in-Some-store-clause-stores c layout mem s stands =
    made_there c.args.self.now c.in-Some.i c.args.zone (sym c.in-Some.ensures.place) c.in-Some.ensures.within.0
    (next_stores c.args.count) c.store.new.self c.store.ensures.stores layout mem s stands
