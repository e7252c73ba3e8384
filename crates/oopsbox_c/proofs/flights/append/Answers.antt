-- The first stores are those of the flight that was begun. For `append`.
use Rattle.std.proofs.Common.{sym, ap, ◌∙◌, subst}
use Rattle.oopsbox_c.specs.Flights.{AppendEnds}
use Rattle.oopsbox_c.specs.declared.ends.End.{End}
use Rattle.oopsbox_c.specs.declared.places.ZonePlace.{ZonePlace}
use Rattle.oopsbox_c.proofs.flights.append.Goals as goal

pub returns-in-Done : goal.returns-in-Done
returns-in-Done c =
    subst (λ (e : End). AppendEnds e c.args.place.now c.args.image.now c.args.payload.now c.args.flight.now
    c.first_stores.new.flight c.args.stores.now c.first_stores.new.stores) (sym c.in-Done.is)
    (record {
      begun = c.begin-end.new.flight;
      is_begun = c.in-Done.ensures;
      is_next = c.first_stores.ensures.next;
      whole = λ parity. c.first_stores.ensures.whole c.in-Done.ensures.kind_is
          (ap (λ (p : ZonePlace). p.parity) c.in-Done.ensures.zone ∙ parity) c.in-Done.ensures.made;
    })
