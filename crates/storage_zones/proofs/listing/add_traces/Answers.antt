-- The record stands after those that were there. For `add_traces`.
use Rattle.std.proofs.Common.{◌++◌, ◌∙◌, List, ap}
use Rattle.std.proofs.lemmas.Result.{on_ok_weaker}
use Rattle.psz_spec.specs.Records.{traces_of}
use Rattle.zone_spec.specs.RecordsHeld.{RecordHeld}
use Rattle.storage_zones.proofs.listing.add_traces.Goals as goal

pub returns : goal.returns
returns c = on_ok_weaker c.add_some.result
    (λ e. e ∙ ap (λ (rs : List RecordHeld). c.args.records.now.items ++ rs)
    (c.in_ok-held.ensures (traces_of c.args.machine c.args.image.now c.args.zones.now) c.in_ok-traces.ensures))
    c.add_some.ensures
