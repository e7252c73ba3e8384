-- A call that is begun in a free zone
use Rattle.std.proofs.Common.{◌≡◌, ◌+◌, None, Some, get_or, set, slice_get, sym, subst, arith}
use Rattle.zone_spec.specs.Calls.{CanBegin}
use Rattle.ramoops_layout.specs.Laid.{zones_of}
use Rattle.prz_region.specs.CutRegion.{span}
use Rattle.prz_region.proofs.CutLoop.{no_zone}
use Rattle.ramoops.specs.Asks.{ask_seen}
use Rattle.ramoops.specs.Places.{dump_flights}
use Rattle.ramoops.proofs.CallPremises.{Free, free_here, started}
use Rattle.ramoops.proofs.DumpFlights.{flights_begun, flights_bound}
use Rattle.ramoops.proofs.live.Live.start.Goals as goal
use Rattle.ramoops.proofs.live.Live.start.Goals.{After-into_call, After-dump_flight}

-- the zone is free
free : (c : After-into_call) → Free (get_or c.zones.result.now c.args.i no_zone) c.index-all-i.result
    c.index_mut.result.now (ask_seen c.args.ask)
    × (slice_get (zones_of c.self.inside.layout) c.args.i ≡ Some (get_or c.zones.result.now c.args.i no_zone))
    × (slice_get c.self.inside.zones.items c.args.i ≡ Some c.index_mut.result.now)
    × (c.index-all-i.result ≡ span c.self.inside.spans c.args.i)
free c = free_here _ c.args.self.now c.args.i (ask_seen c.args.ask)
    c.zones.result.now no_zone c.all.result.now c.index-all-i.result c.index_mut.result.now c.self.view_is
    c.self.invariant.0 c.check.ensures
    c.requires.place c.requires.within c.requires.free c.zones.ensures.value c.all.ensures c.index-all-i.is
    c.index_mut.ensures.value

-- how many dump zones have a flight then
flights : (c : After-dump_flight)
    → slice_get (zones_of c.self.inside.layout) c.args.i ≡ Some (get_or c.zones.result.now c.args.i no_zone)
    → slice_get c.self.inside.zones.items c.args.i ≡ Some c.index_mut.result.now
    → c.index_mut.result.now.flight ≡ None
    → c.self.inside.flying_dumps + c.dump_flight.result
    ≡ dump_flights (zones_of c.self.inside.layout) (set c.self.inside.zones.items c.args.i c.start-flies.new.held)
flights c ez eh idle = flights_begun _ c.self.inside.zones.items c.args.i (get_or c.zones.result.now c.args.i no_zone)
    c.index_mut.result.now c.start-flies.new.held _ _ _ ez eh idle c.self.invariant.3
    c.start-flies.ensures.started c.dump_flight.ensures

pub start-flies-requires-clause-valid : goal.start-flies-requires-clause-valid
start-flies-requires-clause-valid c = (free (goal.at.start-flies-requires-clause-valid c).After-into_call).0.valid

pub start-flies-requires-clause-image : goal.start-flies-requires-clause-image
start-flies-requires-clause-image c = (free (goal.at.start-flies-requires-clause-image c).After-into_call).0.image

pub start-flies-requires-clause-ring : goal.start-flies-requires-clause-ring
start-flies-requires-clause-ring c = (free (goal.at.start-flies-requires-clause-ring c).After-into_call).0.ring

pub start-flies-requires-clause-idle : goal.start-flies-requires-clause-idle
start-flies-requires-clause-idle c = (free (goal.at.start-flies-requires-clause-idle c).After-into_call).0.idle

pub start-flies-requires-clause-can : goal.start-flies-requires-clause-can
start-flies-requires-clause-can c =
    subst (CanBegin (get_or c.zones.result.now c.args.i no_zone) c.index-all-i.result) (sym c.into_call.ensures)
    (free (goal.at.start-flies-requires-clause-can c).After-into_call).0.can

pub invariant_of-self : goal.invariant_of-self
invariant_of-self c =
    let path = goal.at.invariant_of-self c in
    let f = free path.After-into_call in (
      (started _ c.args.self.now c.args.i (ask_seen c.args.ask)
          _ c.zones.result.now no_zone c.all.result.now c.index-all-i.result c.index_mut.result.now
          c.start-flies.new.held
          c.self.view_is
          c.self.invariant.0 c.check.ensures c.requires.place c.requires.within c.requires.free c.zones.ensures.value
          c.all.ensures c.index-all-i.is c.index_mut.ensures.value c.into_call.ensures
          c.start-flies.ensures.told c.start-flies.ensures.flies c.start-flies.ensures.begun).0,
      c.self.invariant.1,
      c.self.invariant.2,
      flights path.After-dump_flight f.1 f.2 f.0.idle,
    )

pub overflow_add-self : goal.overflow_add-self
overflow_add-self c =
    let path = goal.at.overflow_add-self c in
    let f = free path.After-into_call in
    let sum = flights path.After-dump_flight f.1 f.2 f.0.idle in
    let bound = flights_bound (zones_of c.self.inside.layout)
    (set c.self.inside.zones.items c.args.i c.start-flies.new.held) in
    omega (arith, sum, bound, c.self.inside.layout.zones.small)

pub returns-clause-begun : goal.returns-clause-begun
returns-clause-begun c layout mem s stands =
    (started _ c.args.self.now c.args.i (ask_seen c.args.ask)
    _ c.zones.result.now no_zone c.all.result.now c.index-all-i.result c.index_mut.result.now c.start-flies.new.held
    c.self.view_is
    c.self.invariant.0 c.check.ensures c.requires.place c.requires.within c.requires.free c.zones.ensures.value
    c.all.ensures c.index-all-i.is c.index_mut.ensures.value c.into_call.ensures
    c.start-flies.ensures.told c.start-flies.ensures.flies c.start-flies.ensures.begun).1
    layout mem s stands
