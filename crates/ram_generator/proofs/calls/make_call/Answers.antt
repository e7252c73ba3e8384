-- A call made is counted with its stores. For `make_call`.
use Rattle.ramoops.specs.Asks.{ask_seen}
use Rattle.ram_generator.proofs.SessionCalls.{call_counted}
use Rattle.ram_generator.proofs.calls.make_call.Goals as goal

pub returns-clause-made : goal.returns-clause-made
returns-clause-made c layout mem g lies r =
    call_counted layout mem c.args.live.now c.make_stores-stores.new.live c.args.counts.now c.add_calls.new.self g
    (ask_seen c.args.ask) c.make_stores-stores.result r
    (c.make_stores-stores.ensures layout mem r.now lies r.stands r.sound) c.add_calls.ensures.added
