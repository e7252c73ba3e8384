-- The ring that is found is the first of those left, and with none found none is left. For
-- `Scan::next`.
use Rattle.ramoops_layout.specs.Laid.{zones_of}
use Rattle.salvage.proofs.ScanRest.{after_hit, after_none}
use Rattle.salvage.proofs.scan.Scan.next.Goals as goal

pub returns-in-Some-clause-ring : goal.returns-in-Some-clause-ring
returns-in-Some-clause-ring c = (after_hit c.args.self.now c.self.inside.image (zones_of c.self.inside.layout)
    c.self.inside.shapes.items
    c.self.inside.place c.self.inside.index c.as_slice-dump.result.now c.as_slice.result.now c.in-Some.hit
    c.self.view_is
    c.as_slice-dump.ensures c.as_slice.ensures.value c.in-Some.ensures.first).0

pub returns-in-Some-clause-rest : goal.returns-in-Some-clause-rest
returns-in-Some-clause-rest c = (after_hit c.args.self.now c.self.inside.image (zones_of c.self.inside.layout)
    c.self.inside.shapes.items
    c.self.inside.place c.self.inside.index c.as_slice-dump.result.now c.as_slice.result.now c.in-Some.hit
    c.self.view_is
    c.as_slice-dump.ensures c.as_slice.ensures.value c.in-Some.ensures.first).1

pub returns-in-None-clause-ring : goal.returns-in-None-clause-ring
returns-in-None-clause-ring c = (after_none c.args.self.now c.self.inside.image (zones_of c.self.inside.layout)
    c.self.inside.shapes.items
    c.self.inside.place c.self.inside.index c.places-self-inside.result c.as_slice-dump.result.now
    c.as_slice.result.now c.self.view_is c.as_slice-dump.ensures c.as_slice.ensures.value c.in-None.ensures.first
    c.places-self-inside.ensures).0

pub returns-in-None-clause-rest : goal.returns-in-None-clause-rest
returns-in-None-clause-rest c = (after_none c.args.self.now c.self.inside.image (zones_of c.self.inside.layout)
    c.self.inside.shapes.items
    c.self.inside.place c.self.inside.index c.places-self-inside.result c.as_slice-dump.result.now
    c.as_slice.result.now c.self.view_is c.as_slice-dump.ensures c.as_slice.ensures.value c.in-None.ensures.first
    c.places-self-inside.ensures).1
