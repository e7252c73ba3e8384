-- What the one zone counts is what all zones count. For `counts_by`.
use Rattle.std.proofs.Common.{List}
use Rattle.std.specs.Prelude.{nat_lt, flat_map, sum_by}
use Rattle.std.specs.List.{list_any}
use Rattle.zone_spec.specs.Reading.{ZoneReading}
use Rattle.zone_spec.specs.Records.{Saved, found}
use Rattle.prz_read.specs.Saving.{saved}
use Rattle.pstore_records.proofs.Sources.{own-zones, zip-within}
use Rattle.pstore_records.proofs.walk.counts_by.Goals as goal

pub counts_at-requires : goal.counts_at-requires
counts_at-requires c = zip-within c.args.logs.now.zones c.args.logs.now.readings c.in-Some.i
    (c.requires.within c.in-Some.i c.in-Some.is)

pub returns-in-Some-clause-has_parity : goal.returns-in-Some-clause-has_parity
returns-in-Some-clause-has_parity c =
    own-zones (λ (own : List Saved). list_any (λ (zone : Saved). nat_lt 0 zone.0.parity) own)
    (saved c.args.logs.now) c.args.source.now c.in-Some.i c.counts_at.result.has_parity c.requires c.in-Some.is
    c.counts_at.ensures.has_parity

pub returns-in-Some-clause-corrected : goal.returns-in-Some-clause-corrected
returns-in-Some-clause-corrected c =
    own-zones (λ (own : List Saved). sum_by (λ (r : ZoneReading). r.corrected)
    (flat_map (λ (zone : Saved). found zone.1) own))
    (saved c.args.logs.now) c.args.source.now c.in-Some.i c.counts_at.result.corrected c.requires c.in-Some.is
    c.counts_at.ensures.corrected

pub returns-in-Some-clause-bad : goal.returns-in-Some-clause-bad
returns-in-Some-clause-bad c =
    own-zones (λ (own : List Saved). sum_by (λ (r : ZoneReading). r.bad)
    (flat_map (λ (zone : Saved). found zone.1) own))
    (saved c.args.logs.now) c.args.source.now c.in-Some.i c.counts_at.result.bad c.requires c.in-Some.is
    c.counts_at.ensures.bad
