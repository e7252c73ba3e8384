-- A byte stored for an open ticket is the history's step, and for any other ticket nothing is. For
-- `Shared::step`.
use Rattle.std.proofs.Common.{◌≡◌, sym, ap, ◌∙◌, subst, Some, None, length-append}
use Rattle.std.specs.Prelude.{position}
use Rattle.shared_spec.specs.Runs.{StoreNext}
use Rattle.shared_spec.specs.Histories.{and_then}
use Rattle.shared_ring.specs.Seats.{is_of}
use Rattle.shared_ring.specs.Seen.{SharedSeen, IsLeftBy, stores}
use Rattle.shared_ring.proofs.RingView.{the_seat}
use Rattle.shared_ring.proofs.RingSteps.{left_stepped, left_idle, step_answers, idle_answers, stepped_in, none_open}
use Rattle.shared_ring.proofs.shared.Shared.step.Goals as goal

pub returns-in-Some-clause-left : goal.returns-in-Some-clause-left
returns-in-Some-clause-left c = λ h l.
    let e : position (is_of c.args.ticket) c.args.self.now.seats ≡ Some c.in-Some.i =
    ap (λ (x : SharedSeen). position (is_of c.args.ticket) x.seats) (sym c.self.view_is)
    ∙ ap (position (is_of c.args.ticket)) (sym c.deref.ensures.value) ∙ sym c.find.ensures ∙ c.in-Some.is in
    let s = the_seat c.args.ticket c.args.self.now.seats c.in-Some.i e in
    subst (λ (x : SharedSeen). IsLeftBy (and_then h (StoreNext c.args.ticket)) x)
    (sym (c.store_next.ensures.stepped s.0 s.1))
    (left_stepped h c.args.self.now c.in-Some.i c.args.ticket s.0 l s.1 s.2)

pub returns-in-Some-clause-answer : goal.returns-in-Some-clause-answer
returns-in-Some-clause-answer c = λ h l.
    let e : position (is_of c.args.ticket) c.args.self.now.seats ≡ Some c.in-Some.i =
    ap (λ (x : SharedSeen). position (is_of c.args.ticket) x.seats) (sym c.self.view_is)
    ∙ ap (position (is_of c.args.ticket)) (sym c.deref.ensures.value) ∙ sym c.find.ensures ∙ c.in-Some.is in
    let s = the_seat c.args.ticket c.args.self.now.seats c.in-Some.i e in
    step_answers h c.args.self.now c.args.ticket c.in-Some.i s.0 l s.1 s.2 c.store_next.result
    (c.store_next.ensures.answer s.0 s.1)

pub returns-in-None-clause-left : goal.returns-in-None-clause-left
returns-in-None-clause-left c = λ h l.
    let e : position (is_of c.args.ticket) c.args.self.now.seats ≡ None =
    ap (λ (x : SharedSeen). position (is_of c.args.ticket) x.seats) (sym c.self.view_is)
    ∙ ap (position (is_of c.args.ticket)) (sym c.deref.ensures.value) ∙ sym c.find.ensures ∙ c.in-None.is in
    left_idle h c.args.self.now c.args.ticket l e

pub returns-in-None-clause-answer : goal.returns-in-None-clause-answer
returns-in-None-clause-answer c = λ h l.
    let e : position (is_of c.args.ticket) c.args.self.now.seats ≡ None =
    ap (λ (x : SharedSeen). position (is_of c.args.ticket) x.seats) (sym c.self.view_is)
    ∙ ap (position (is_of c.args.ticket)) (sym c.deref.ensures.value) ∙ sym c.find.ensures ∙ c.in-None.is in
    idle_answers h c.args.self.now c.args.ticket l e

pub returns-in-Some-clause-stores : goal.returns-in-Some-clause-stores
returns-in-Some-clause-stores c =
    let e : position (is_of c.args.ticket) c.args.self.now.seats ≡ Some c.in-Some.i =
    ap (λ (x : SharedSeen). position (is_of c.args.ticket) x.seats) (sym c.self.view_is)
    ∙ ap (position (is_of c.args.ticket)) (sym c.deref.ensures.value) ∙ sym c.find.ensures ∙ c.in-Some.is in
    let s = the_seat c.args.ticket c.args.self.now.seats c.in-Some.i e in
    ap (λ (x : SharedSeen). stores x) (c.store_next.ensures.stepped s.0 s.1)
    ∙ length-append c.args.self.now.region.made _

pub returns-in-Some-clause-stored : goal.returns-in-Some-clause-stored
returns-in-Some-clause-stored c = λ h call l is.
    let e : position (is_of c.args.ticket) c.args.self.now.seats ≡ Some c.in-Some.i =
    ap (λ (x : SharedSeen). position (is_of c.args.ticket) x.seats) (sym c.self.view_is)
    ∙ ap (position (is_of c.args.ticket)) (sym c.deref.ensures.value) ∙ sym c.find.ensures ∙ c.in-Some.is in
    let s = the_seat c.args.ticket c.args.self.now.seats c.in-Some.i e in
    ap (λ (x : SharedSeen). x.region) (c.store_next.ensures.stepped s.0 s.1)
    ∙ stepped_in h c.args.self.now c.in-Some.i c.args.ticket s.0 call l s.1 s.2 is

pub returns-in-None-clause-stored : goal.returns-in-None-clause-stored
returns-in-None-clause-stored c = λ h call l is.
    let e : position (is_of c.args.ticket) c.args.self.now.seats ≡ None =
    ap (λ (x : SharedSeen). position (is_of c.args.ticket) x.seats) (sym c.self.view_is)
    ∙ ap (position (is_of c.args.ticket)) (sym c.deref.ensures.value) ∙ sym c.find.ensures ∙ c.in-None.is in
    absurd (none_open h c.args.self.now c.args.ticket call l e is)
