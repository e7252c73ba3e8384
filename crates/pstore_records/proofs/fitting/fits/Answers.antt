-- A zone that doesn't fit decides; one that does leaves it to the rest. For `fits`.
use Rattle.std.proofs.Common.{◌<◌, Bool, true, ◌&&◌, List, length, arith, sym, ap, ◌∙◌}
use Rattle.std.proofs.lemmas.List.{take_all}
use Rattle.zone_spec.specs.Records.{Saved}
use Rattle.ramoops_layout.specs.Laid.{zones_of}
use Rattle.machine_spec.specs.Moved.{fits}
use Rattle.prz_read.specs.Saving.{saved}
use Rattle.pstore_records.proofs.RecordFit.{fits-append, fits-all}
use Rattle.pstore_records.proofs.Steps.{added-more}
use Rattle.pstore_records.proofs.fitting.fits.Goals as goal

pub returns-then-not-fits_at : goal.returns-then-not-fits_at
returns-then-not-fits_at c =
    let zones = saved c.args.logs.now in
    let layout = zones_of c.args.layout.now in
    let within : c.loop-i.i < length zones = omega (arith, c.len-i-end.ensures.saved, c.loop-i-test.true) in
    sym (fits-all layout c.args.name zones c.loop-i.i
    (sym (added-more (λ (zs : List Saved). fits layout zs c.args.name) (λ (a b : Bool). a && b)
    (fits-append layout c.args.name) zones c.loop-i.i true c.fits_at.result within c.fits_at.ensures
    (sym c.loop-i.invariant)) ∙ c.if-not-fits_at.true))

pub loop-i-preserved : goal.loop-i-preserved
loop-i-preserved c =
    let zones = saved c.args.logs.now in
    let layout = zones_of c.args.layout.now in
    let within : c.loop-i.i < length zones = omega (arith, c.len-i-end.ensures.saved, c.loop-i-test.true) in
    sym (added-more (λ (zs : List Saved). fits layout zs c.args.name) (λ (a b : Bool). a && b)
    (fits-append layout c.args.name) zones c.loop-i.i true c.fits_at.result within c.fits_at.ensures
    (sym c.loop-i.invariant)) ∙ c.if-not-fits_at.false

pub returns : goal.returns
returns c =
    let zones = saved c.args.logs.now in
    sym c.loop-i.invariant ∙ ap (λ (zs : List Saved). fits (zones_of c.args.layout.now) zs c.args.name)
    (take_all c.loop-i.i zones (omega (arith, c.len-i-end.ensures.saved, c.loop-i-test.false)))
