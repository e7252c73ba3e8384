-- A call begun and all its stores made is the session's operation; a refusal is that of its begin.
-- For `Live::make`.
use Rattle.ramoops.specs.Asks.{ask_seen}
use Rattle.ramoops.proofs.WholeFlights.{make_leaves, make_made, make_refused}
use Rattle.ramoops.proofs.live.Live.make.Goals as goal

pub returns-in-Ok-clause-made : goal.returns-in-Ok-clause-made
returns-in-Ok-clause-made c layout mem s stands =
    make_leaves c.args.self.now c.begin_at.new.self c.store_all-stored.new.self c.in-Ok.i (ask_seen c.args.ask)
    c.in-Ok.ensures.place.0 c.in-Ok.ensures.place.1 c.in-Ok.ensures.begun c.store_all-stored.ensures.stored
    layout mem s stands

pub returns-in-Ok-clause-stores : goal.returns-in-Ok-clause-stores
returns-in-Ok-clause-stores c layout mem s stands =
    make_made c.args.self.now c.begin_at.new.self c.store_all-stored.new.self c.in-Ok.i (ask_seen c.args.ask)
    c.in-Ok.ensures.place.0 c.in-Ok.ensures.place.1 c.in-Ok.ensures.begun c.begin_at.ensures.stores
    c.store_all-stored.ensures.stores layout mem s stands

pub returns-in-Err-clause-refused : goal.returns-in-Err-clause-refused
returns-in-Err-clause-refused c layout mem s stands =
    make_refused layout s (ask_seen c.args.ask) c.in-Err.refused.why (c.in-Err.ensures.refused layout mem s stands)
