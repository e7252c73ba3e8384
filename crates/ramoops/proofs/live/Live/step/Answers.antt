-- One store of the flight is the session's step, and done exactly when no flight is left; with no
-- flight it is idle. For `Live::step`.
use Rattle.std.proofs.Common.{Some, true, false, is_some, sym, ap, ◌∙◌, true≢false, refl}
use Rattle.machine_spec.specs.ZoneCalls.{stepped}
use Rattle.ramoops.specs.Storing.{is_next}
use Rattle.ramoops.specs.Made.{next_stores}
use Rattle.ramoops.proofs.StepStates.{goes_leaves, made_there, goes_idle, flies_after}
use Rattle.ramoops.proofs.live.Live.step.Goals as goal

pub returns-in-None-clause-refused : goal.returns-in-None-clause-refused
returns-in-None-clause-refused c layout mem s stands =
    goes_idle c.args.self.now c.in-Some.i c.args.zone (sym c.in-Some.ensures.place) c.in-Some.ensures.within.0
    (λ z live. stepped z 1 live)
    (c.store.ensures.flies ∙ ap is_some c.in-None.is) layout mem s stands

pub returns-in-Some-Next-clause-stepped : goal.returns-in-Some-Next-clause-stepped
returns-in-Some-Next-clause-stepped c layout mem s stands =
    goes_leaves c.args.self.now c.in-Some.i c.args.zone (sym c.in-Some.ensures.place)
    c.in-Some.ensures.within.0 (λ z live. stepped z 1 live) c.store.new.self
    (c.store.ensures.flies ∙ ap is_some c.in-Some-Next.is)
    c.store.ensures.stored
    layout mem s stands

pub returns-in-Some-Next-clause-done : goal.returns-in-Some-Next-clause-done
returns-in-Some-Next-clause-done c =
    let flies = flies_after c.args.self.now c.store.new.self c.args.zone c.in-Some.i true c.store.ensures.layout
    (sym c.in-Some.ensures.place)
    (c.store.ensures.goes_on ∙ ap is_next (c.in-Some-Next.is ∙ ap Some c.in-Some-Next.field-0-is)) in
    (λ e. cc, λ e. absurd (true≢false (sym flies ∙ e)))

pub returns-in-Some-Last-clause-stepped : goal.returns-in-Some-Last-clause-stepped
returns-in-Some-Last-clause-stepped c layout mem s stands =
    goes_leaves c.args.self.now c.in-Some.i c.args.zone (sym c.in-Some.ensures.place)
    c.in-Some.ensures.within.0 (λ z live. stepped z 1 live) c.store.new.self
    (c.store.ensures.flies ∙ ap is_some c.in-Some-Last.is)
    c.store.ensures.stored
    layout mem s stands

pub returns-in-Some-Last-clause-done : goal.returns-in-Some-Last-clause-done
returns-in-Some-Last-clause-done c =
    let flies = flies_after c.args.self.now c.store.new.self c.args.zone c.in-Some.i false c.store.ensures.layout
    (sym c.in-Some.ensures.place)
    (c.store.ensures.goes_on ∙ ap is_next (c.in-Some-Last.is ∙ ap Some c.in-Some-Last.field-0-is)) in
    (λ e. flies, λ e. refl)

pub returns-in-Some-Next-clause-stores : goal.returns-in-Some-Next-clause-stores
returns-in-Some-Next-clause-stores c layout mem s stands =
    made_there c.args.self.now c.in-Some.i c.args.zone (sym c.in-Some.ensures.place) c.in-Some.ensures.within.0
    (next_stores 1) c.store.new.self c.store.ensures.stores layout mem s stands

pub returns-in-Some-Last-clause-stores : goal.returns-in-Some-Last-clause-stores
returns-in-Some-Last-clause-stores c layout mem s stands =
    made_there c.args.self.now c.in-Some.i c.args.zone (sym c.in-Some.ensures.place) c.in-Some.ensures.within.0
    (next_stores 1) c.store.new.self c.store.ensures.stores layout mem s stands
