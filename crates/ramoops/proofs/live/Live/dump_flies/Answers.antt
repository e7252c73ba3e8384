-- A flight stands in a dump zone exactly when more than none are counted. For `dump_flies`.
use Rattle.std.proofs.Common.{nat_lt, ap, ◌∙◌}
use Rattle.ramoops_layout.specs.Laid.{zones_of}
use Rattle.ramoops.specs.LiveSeen.{LiveSeen}
use Rattle.ramoops.specs.Places.{dump_flies}
use Rattle.ramoops.proofs.DumpFlights.{some_flies}
use Rattle.ramoops.proofs.live.Live.dump_flies.Goals as goal

pub returns : goal.returns
returns c = ap (nat_lt 0) c.self.invariant.3 ∙ some_flies (zones_of c.self.inside.layout) c.self.inside.zones.items
    ∙ ap (λ (v : LiveSeen). dump_flies v.layout v.zones) c.self.view_is
