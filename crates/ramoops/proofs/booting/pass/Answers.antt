-- The zone that is passed was read, and its reading is that of its span. For `pass`.
use Rattle.std.proofs.Common.{◌≡◌, ℕ, sym, ap, ◌∙◌, Some, None, arith}
use Rattle.std.specs.Option.{option_copied}
use Rattle.list_laws.proofs.Gets.{slice_get-zip_second}
use Rattle.zone_spec.specs.Reading.{ZoneReading, zone_reading}
use Rattle.prz_region.specs.CutRegion.{span}
use Rattle.ramoops.proofs.booting.pass.Goals as goal

pub settle_with-requires-clause-reading : goal.settle_with-requires-clause-reading
settle_with-requires-clause-reading c =
    let e : Some (Some (zone_reading c.args.zone.now (span c.args.spans.now c.args.i)))
    ≡ Some (option_copied c.reading.result) =
    sym (slice_get-zip_second c.args.logs.now.zones c.args.logs.now.readings c.args.i _ c.requires.zones c.requires.reading)
    ∙ c.reading.ensures in
    let f : Some (Some (zone_reading c.args.zone.now (span c.args.spans.now c.args.i)))
    ≡ Some (Some c.in-Some.reading.now) = e ∙ ap (λ o. Some (option_copied o)) c.in-Some.is in
    let g : c.in-Some.reading.now ≡ zone_reading c.args.zone.now (span c.args.spans.now c.args.i) = cc in g

pub unreachable-requires : goal.unreachable-requires
unreachable-requires c =
    let e : Some (Some (zone_reading c.args.zone.now (span c.args.spans.now c.args.i)))
    ≡ Some (option_copied c.reading.result) =
    sym (slice_get-zip_second c.args.logs.now.zones c.args.logs.now.readings c.args.i _ c.requires.zones c.requires.reading)
    ∙ c.reading.ensures in
    let f : Some (Some (zone_reading c.args.zone.now (span c.args.spans.now c.args.i))) ≡ Some None =
    e ∙ ap (λ o. Some (option_copied o)) c.in-None.is in
    let n : ◌≡◌ {A = ℕ} 0 1 = cc in omega (arith, n)

pub returns-clause-words : goal.returns-clause-words
returns-clause-words c =
    let e : Some (Some (zone_reading c.args.zone.now (span c.args.spans.now c.args.i)))
    ≡ Some (option_copied c.reading.result) =
    sym (slice_get-zip_second c.args.logs.now.zones c.args.logs.now.readings c.args.i _ c.requires.zones c.requires.reading)
    ∙ c.reading.ensures in
    let f : Some (Some (zone_reading c.args.zone.now (span c.args.spans.now c.args.i)))
    ≡ Some (Some c.in-Some.reading.now) = e ∙ ap (λ o. Some (option_copied o)) c.in-Some.is in
    let g : c.in-Some.reading.now ≡ zone_reading c.args.zone.now (span c.args.spans.now c.args.i) = cc in
    ap (λ (r : ZoneReading). r.words) (c.reading-in-Some.view_is ∙ g)
