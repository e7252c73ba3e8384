-- A place with no ring of the zone's shape is refused; one with a ring reads as the zone. For
-- `Scan::ring_at`.
use Rattle.std.proofs.Common.{refl}
use Rattle.ramoops_layout.specs.Laid.{zones_of}
use Rattle.salvage.proofs.PlaceReading.{asked, named_valid, inside, read_ok, read_err, is_ok}
use Rattle.salvage.proofs.scan.Scan.ring_at.Goals as goal

pub has_ring-requires : goal.has_ring-requires
has_ring-requires c = named_valid c.zones.result.now (zones_of c.self.inside.layout) _ c.args.name c.find.result
    c.in-Some.index _ c.zones.ensures.laid_out c.find.ensures c.in-Some.is c.zones.ensures.value

pub read_place-requires-clause-valid : goal.read_place-requires-clause-valid
read_place-requires-clause-valid c = named_valid c.zones.result.now (zones_of c.self.inside.layout) _ c.args.name
    c.find.result c.in-Some.index _ c.zones.ensures.laid_out c.find.ensures c.in-Some.is c.zones.ensures.value

pub read_place-requires-clause-within : goal.read_place-requires-clause-within
read_place-requires-clause-within c = inside c.as_slice.result.now c.as_slice-2.result.now c.self.inside.image c.args.at
    _ c.has_ring.result c.as_slice.ensures c.as_slice-2.ensures c.if-not-has_ring.false c.has_ring.ensures

pub returns-then-not-has_ring : goal.returns-then-not-has_ring
returns-then-not-has_ring c = read_err _ _ c.has_ring.result c.if-not-has_ring.true
    (asked c.args.self.now c.self.inside.image c.as_slice.result.now (zones_of c.self.inside.layout) c.zones.result.now
    _ c.args.at c.args.name c.find.result c.in-Some.index _ c.has_ring.result c.self.view_is refl refl c.find.ensures
    c.in-Some.is c.zones.ensures.value c.as_slice.ensures c.has_ring.ensures)

pub returns-in-Ok : goal.returns-in-Ok
returns-in-Ok c = read_ok _ _ c.self.inside.image c.as_slice-2.result.now c.args.at c.has_ring.result
    c.in-Ok.reading c.if-not-has_ring.false
    (asked c.args.self.now c.self.inside.image c.as_slice.result.now (zones_of c.self.inside.layout) c.zones.result.now
    _ c.args.at c.args.name c.find.result c.in-Some.index _ c.has_ring.result c.self.view_is refl refl c.find.ensures
    c.in-Some.is c.zones.ensures.value c.as_slice.ensures c.has_ring.ensures)
    c.as_slice-2.ensures c.in-Ok.ensures

pub returns-in-Err : goal.returns-in-Err
returns-in-Err c = is_ok _ _ c.has_ring.result c.if-not-has_ring.false
    (asked c.args.self.now c.self.inside.image c.as_slice.result.now (zones_of c.self.inside.layout) c.zones.result.now
    _ c.args.at c.args.name c.find.result c.in-Some.index _ c.has_ring.result c.self.view_is refl refl c.find.ensures
    c.in-Some.is c.zones.ensures.value c.as_slice.ensures c.has_ring.ensures)
