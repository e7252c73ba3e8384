-- All was tested
use Rattle.std.proofs.Common.{arith}
use Rattle.oopsbox_c.proofs.flights.next.Goals as goal

pub returns-then-is_parity : goal.returns-then-is_parity
returns-then-is_parity c = (
  record {
    flight = c.is_flight.ensures.0 c.if-not-is_flight.false;
    len = c.if-image-flight.false;
    lendable = c.is_lendable.ensures.0 c.if-not-is_lendable.false;
    some = let some = c.if-most-eq0.false in omega (arith, some);
  },
  c.go_on_by.ensures.next,
  c.go_on_by.ensures.coming,
)

pub returns-else-is_parity : goal.returns-else-is_parity
returns-else-is_parity c = (
  record {
    flight = c.is_flight.ensures.0 c.if-not-is_flight.false;
    len = c.if-image-flight.false;
    lendable = c.is_lendable.ensures.0 c.if-not-is_lendable.false;
    some = let some = c.if-most-eq0.false in omega (arith, some);
  },
  c.go_on.ensures.next,
  c.go_on.ensures.coming,
)
