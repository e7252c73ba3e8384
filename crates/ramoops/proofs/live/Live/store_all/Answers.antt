-- As many stores as are left finish the flight. For `store_all`.
use Rattle.ramoops.proofs.WholeFlights.{finishes, makes_left}
use Rattle.ramoops.proofs.live.Live.store_all.Goals as goal

pub returns-clause-stored : goal.returns-clause-stored
returns-clause-stored c = finishes c.args.self.now c.store.new.self c.args.i c.left_at-left.result
    c.left_at-left.ensures
    c.store.ensures.stored

pub returns-clause-stores : goal.returns-clause-stores
returns-clause-stores c = makes_left c.args.self.now c.store.new.self c.args.i c.left_at-left.result
    c.left_at-left.ensures
    c.store.ensures.stores
