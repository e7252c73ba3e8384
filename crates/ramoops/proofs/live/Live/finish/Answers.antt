-- All stores of the zone's flight take the state on as a session's finish; with no flight the call
-- is idle. For `Live::finish`.
use Rattle.std.proofs.Common.{is_some, sym, ap, ◌∙◌}
use Rattle.machine_spec.specs.ZoneCalls.{finished}
use Rattle.ramoops.specs.Made.{left_stores}
use Rattle.ramoops.proofs.StepStates.{goes_leaves, made_there, goes_idle}
use Rattle.ramoops.proofs.live.Live.finish.Goals as goal

pub returns-in-None-clause-refused : goal.returns-in-None-clause-refused
returns-in-None-clause-refused c layout mem s stands =
    goes_idle c.args.self.now c.in-Some.i c.args.zone (sym c.in-Some.ensures.place) c.in-Some.ensures.within.0
    (λ z live. finished z live) (c.store_all.ensures.flies ∙ ap is_some c.in-None.is) layout mem s stands

pub returns-in-Some-store_all-clause-finished : goal.returns-in-Some-store_all-clause-finished
returns-in-Some-store_all-clause-finished c layout mem s stands =
    goes_leaves c.args.self.now c.in-Some.i c.args.zone (sym c.in-Some.ensures.place) c.in-Some.ensures.within.0
    (λ z live. finished z live) c.store_all.new.self (c.store_all.ensures.flies ∙ ap is_some c.in-Some-store_all.is)
    c.store_all.ensures.stored layout mem s stands

pub returns-in-Some-store_all-clause-stores : goal.returns-in-Some-store_all-clause-stores
returns-in-Some-store_all-clause-stores c layout mem s stands =
    made_there c.args.self.now c.in-Some.i c.args.zone (sym c.in-Some.ensures.place) c.in-Some.ensures.within.0
    (left_stores) c.store_all.new.self c.store_all.ensures.stores layout mem s stands
