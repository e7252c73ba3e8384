-- The front decides on the part. For `fill_zone`.
use Rattle.std.proofs.Common.{◌∙◌, ℕ, List, ap}
use Rattle.std.proofs.lemmas.Result.{on_ok_weaker}
use Rattle.psz_spec.specs.Parts.{part_of}
use Rattle.storage_report.proofs.Copies.{zone_at}
use Rattle.storage_report.proofs.filling.fill_zone.Goals as goal

pub returns-clause-has : goal.returns-clause-has
returns-clause-has g c = on_ok_weaker c.fill_log.result
    (λ log. zone_at (g.M.Load.holds c.args.image.now) (g.M.Load.holds c.fill.new.image) c.args.machine c.args.zone.now
    c.front_of.result c.args.copy.now c.fill.new.copy c.fill_log.new.copy c.part_of-part.result
    c.in_ok-fill.ensures.same
    c.front_of.ensures c.fill.auto.copy c.requires
    (c.part_of-part.ensures
    ∙ ap (λ (bytes : List ℕ). part_of c.args.machine c.args.zone.now bytes) c.zone_bytes.ensures)
    c.in_ok-fill.ensures.filled log)
    c.fill_log.ensures.filled
