-- A flight that is begun stands, or ends at once if it has no store
use Rattle.std.proofs.Common.{arith, refl}
use Rattle.prz_write.specs.Calls.{call_seen}
use Rattle.ramoops.proofs.FlightStart.{Begins, begun_some, begun_none}
use Rattle.ramoops.proofs.zones.start.Goals as goal
use Rattle.ramoops.proofs.zones.start.Goals.{After-begin-flight}

begins : (c : After-begin-flight) → Begins c.args.zone c.args.span.now (call_seen c.args.call) c.begin-flight.result
begins c = record {
  zone = c.begin-flight.ensures.zone;
  of_call = c.begin-flight.ensures.call;
  made = c.begin-flight.ensures.made;
  stands = c.begin-flight.ensures.stands;
}

pub returns-then-left-gt0-clause-begun : goal.returns-then-left-gt0-clause-begun
returns-then-left-gt0-clause-begun c live stands =
    let n = c.left.ensures in let t = c.if-left-gt0.true in
    begun_some c.args.zone c.args.span.now (call_seen c.args.call) c.begin-flight.result c.args.held.now _ live
    (begins (goal.at.returns-then-left-gt0-clause-begun c).After-begin-flight) (omega (arith, n, t)) refl stands

pub returns-else-left-gt0-clause-begun : goal.returns-else-left-gt0-clause-begun
returns-else-left-gt0-clause-begun c live stands =
    let n = c.left.ensures in let t = c.if-left-gt0.false in let m = c.begin-flight.ensures.made in
    begun_none c.args.zone c.args.span.now (call_seen c.args.call) c.begin-flight.result c.args.held.now _ live
    (begins (goal.at.returns-else-left-gt0-clause-begun c).After-begin-flight) (omega (arith, n, t, m)) refl stands
