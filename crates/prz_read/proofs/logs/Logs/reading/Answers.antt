-- The reading of zone `i` stands beside the zone in what was saved. For `Logs::reading`.
use Rattle.std.proofs.Common.{◌≡◌, Option, Some, ap, sym, subst, length, arith, ◌∙◌}
use Rattle.std.specs.Prelude.{slice_get}
use Rattle.std.specs.Option.{option_map}
use Rattle.zone_spec.specs.Reading.{ZoneReading}
use Rattle.zone_spec.specs.Records.{Saved}
use Rattle.prz_read.specs.Saving.{SavedLogs, saved}
use Rattle.prz_read.proofs.Saves.{reading-beside}
use Rattle.prz_read.proofs.logs.Logs.reading.Goals as goal

pub returns : goal.returns
returns c =
    let long = ap (λ (l : SavedLogs). length l.readings) c.self.view_is in
    let here : SavedLogs = record { zones = c.self.inside.zones.items; readings = c.self.inside.readings.items } in
    let beside = reading-beside here c.args.i c.index.result.now c.index.ensures
    (let r = c.requires in omega (arith, long, r)) c.self.invariant.below in
    subst (λ (l : SavedLogs). option_map (λ (s : Saved). s.1) (slice_get (saved l) c.args.i)
    ≡ Some c.index.result.now) c.self.view_is beside
    ∙ ap (λ (r : Option ZoneReading). Some r) (sym c.as_ref.ensures.value)
