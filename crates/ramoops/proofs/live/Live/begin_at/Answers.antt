-- A call with a flight in its way is refused as busy. For `begin_at`.
use Rattle.std.proofs.Common.{sym, ◌∙◌}
use Rattle.ramoops.specs.Asks.{ask_seen}
use Rattle.ramoops.proofs.CallPremises.{begun_busy}
use Rattle.ramoops.proofs.live.Live.begin_at.Goals as goal

pub returns-then-is_busy-clause-refused : goal.returns-then-is_busy-clause-refused
returns-then-is_busy-clause-refused c layout mem s stands =
    begun_busy c.args.self.now c.in-Some.i (ask_seen c.args.ask) (sym c.in-Some.ensures.place)
    c.in-Some.ensures.within.0 (sym c.is_busy.ensures ∙ c.if-is_busy.true) layout mem s stands
