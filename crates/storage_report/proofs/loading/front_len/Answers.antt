-- The whole pages of the size that was told. For `front_len`.
use Rattle.storage_report.proofs.Fronts.{front_is}
use Rattle.storage_report.proofs.loading.front_len.Goals as goal

pub returns-in-Ok-clause-front : goal.returns-in-Ok-clause-front
returns-in-Ok-clause-front g c =
    front_is (g.M.Load.holds c.args.image.now) c.in-Ok.has c.min.result c.min.ensures c.in-Ok.ensures.bytes
