-- A zone with its reading and its parts at one place has the value of all three, and null without a reading. For
-- `put_at`.
use Rattle.std.proofs.Common.{◌≡◌, ◌∙◌, length, get_or, Option, Some, None, refl, sym, ap}
use Rattle.std.proofs.lemmas.Option.{slice_get-get_or, slice_get_read}
use Rattle.prz_region.proofs.CutLoop.{no_zone}
use Rattle.serde_json.specs.Data.{null}
use Rattle.zone_spec.specs.Reading.{ZoneReading}
use Rattle.report_json.specs.Schema.{zone_data, saved_data}
use Rattle.report_json.proofs.Places.{beside, on_ok}
use Rattle.report_json.proofs.zones.put_at.Goals as goal

pub returns-in-Some : goal.returns-in-Some
returns-in-Some c =
    on_ok c.put_zone.result _ _ (λ e. record {
      value = zone_data (get_or c.args.zones.now c.args.i no_zone) c.in-Some.reading.now c.index-parts-place.result;
      is = λ z r p ez er ep.
          let zone : Some (get_or c.args.zones.now c.args.i no_zone) ≡ Some z =
          sym (slice_get-get_or c.args.zones.now c.args.i no_zone c.requires.zones) ∙ ez in
          let same_zone : get_or c.args.zones.now c.args.i no_zone ≡ z = cc in
          let reading : Some c.in-Some.reading.now ≡ r = beside c.args.logs.now.zones c.args.logs.now.readings
          c.args.i (Some c.in-Some.reading.now) r c.in-Some.ensures er in
          let part : Some c.index-parts-place.result ≡ Some p = sym (slice_get_read c.args.parts.now
          (length c.args.parts.now) c.args.i c.index-parts-place.result refl c.requires.parts c.index-parts-place.is)
          ∙ ep in
          let same_part : c.index-parts-place.result ≡ p = cc in
          ap (λ y. zone_data y c.in-Some.reading.now c.index-parts-place.result) same_zone
          ∙ ap (zone_data z c.in-Some.reading.now) same_part ∙ ap (saved_data z p) reading;
      put = e;
    }) c.put_zone.ensures

pub returns-in-None : goal.returns-in-None
returns-in-None c =
    on_ok c.null.result _ _ (λ e. record {
      value = null;
      is = λ z r p ez er ep.
          let no_reading : ◌≡◌ {A = Option ZoneReading} None r = beside c.args.logs.now.zones
          c.args.logs.now.readings c.args.i None r c.in-None.ensures er in ap (saved_data z p) no_reading;
      put = e;
    }) c.null.ensures
