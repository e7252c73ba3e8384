-- The number at hand is what is left of the flight in zone `i`. For `left_at`.
use Rattle.ramoops.proofs.WholeFlights.{is_left}
use Rattle.ramoops.proofs.live.Live.left_at.Goals as goal

pub returns : goal.returns
returns c = is_left _ c.args.self.now c.args.i c.requires c.index.result.now c.stores_left.result c.self.view_is
    c.index.ensures c.stores_left.ensures
