-- The record fits if the one zone that is in it does. For `fits_source`.
use Rattle.std.specs.List.{list_all}
use Rattle.ramoops_layout.specs.Laid.{zones_of}
use Rattle.machine_spec.specs.Moved.{takes}
use Rattle.prz_read.specs.Saving.{saved}
use Rattle.pstore_records.proofs.Sources.{own-zones, zip-within}
use Rattle.pstore_records.proofs.moving.fits_source.Goals as goal

pub fits_at-requires : goal.fits_at-requires
fits_at-requires c = zip-within c.args.logs.now.zones c.args.logs.now.readings c.in-Some.i
    (c.requires.within c.in-Some.i c.in-Some.is)

pub returns-in-Some : goal.returns-in-Some
returns-in-Some c =
    own-zones (list_all (takes (zones_of c.args.layout.now))) (saved c.args.logs.now) c.args.source.now c.in-Some.i
    c.fits_at.result c.requires c.in-Some.is c.fits_at.ensures
