-- There is a record exactly where there is a log. For `trace_record`.
use Rattle.std.proofs.Common.{◌≡◌, ◌∙◌, ◌∷◌, [], List, true, ap, arith}
use Rattle.std.proofs.lemmas.Grind.{common_steps}
use Rattle.zone_spec.specs.RecordsHeld.{RecordHeld}
use Rattle.storage_zones.proofs.Lists.{traced}
use Rattle.storage_zones.proofs.listing.trace_record.Goals as goal

pub returns : goal.returns
returns c = λ logs are.
    let any : c.args.traces.now.is_any ≡ true = grind (arith, common_steps, c.if-not-traces.false) in
    ap (λ (r : RecordHeld). r ∷ []) c.plain.ensures
    ∙ traced logs c.args.traces.now c.in_ok-bytes.bytes are any c.in_ok-bytes.ensures
