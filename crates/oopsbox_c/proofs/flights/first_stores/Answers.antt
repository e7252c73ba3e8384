-- An append without parity is handed out whole. For `first_stores`.
use Rattle.std.proofs.Common.{ℕ, List, [], sym, subst}
use Rattle.store_steps.specs.declared.steps.Steps.{Steps}
use Rattle.store_steps.specs.declared.plain.Whole.{Whole}
use Rattle.store_steps.specs.Flying.{flying}
use Rattle.store_steps.specs.Machine.{IsKept}
use Rattle.store_steps.specs.Whole.{TakesWhole, IsWholeCall}
use Rattle.oopsbox_c.specs.Flights.{steps_of, flight_in}
use Rattle.oopsbox_c.specs.declared.flights.Flight.{Flight}
use Rattle.oopsbox_c.proofs.WholeAnswer.{whole_answered, last_unless_whole}
use Rattle.oopsbox_c.proofs.flights.first_stores.Goals as goal

pub take_whole-requires : goal.take_whole-requires
take_whole-requires c = subst (λ s. IsKept (flying s [] c.args.payload.now)) (sym c.steps_of-steps.ensures)
    c.requires.flight.kept

pub returns-in-Some-clause-next : goal.returns-in-Some-clause-next
returns-in-Some-clause-next c =
    let f : Flight = c.args.flight.now in
    let p : List ℕ = c.args.payload.now in
    let t : Steps = c.take_whole.new.self in
    let w : Whole = c.in-Some.whole in
    let took : TakesWhole (flight_in f [] p) (flying t [] p) w p 4294967295 =
    subst (λ n. TakesWhole (flight_in f [] p) (flying t [] p) w p n) c.from.ensures
    (subst (λ x. TakesWhole (flying x [] p) (flying t [] p) w p c.from.result) c.steps_of-steps.ensures
    c.in-Some.ensures.taken) in
    let of = c.flight_of.ensures in
    whole_answered f c.flight_of.result c.args.image.now p t w c.set_whole.new.self c.requires.flight took
    (record {
      steps = of.steps;
      zone = of.zone;
      line = of.line;
      payload = of.payload;
      kind = of.kind;
      leg = of.leg;
      phase = of.phase;
    })
    (c.set_whole.ensures.stores [] p) (c.set_whole.ensures.inside f.zone.size [] p took.inside)

pub returns-in-None-clause-whole : goal.returns-in-None-clause-whole
returns-in-None-clause-whole c = λ kind parity fresh.
    let p : List ℕ = c.args.payload.now in
    last_unless_whole c.args.flight.now c.go_on.new.flight c.args.image.now p c.go_on.new.stores c.requires.flight
    (λ call. c.in-None.ensures.due
    (subst (λ (x : Steps). IsWholeCall x [] p c.from.result) (sym c.steps_of-steps.ensures)
    (subst (λ (n : ℕ). IsWholeCall (steps_of c.args.flight.now) [] p n) (sym c.from.ensures) call)))
    kind parity fresh c.go_on.ensures.next
