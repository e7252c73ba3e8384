-- The joined image is what the history leaves; with no call open the zone reads the full log. For
-- `Shared::close`.
use Rattle.std.proofs.Common.{◌++◌, ap, ◌∙◌}
use Rattle.std.specs.List.{concat}
use Rattle.zone_spec.specs.Reading.{zone_reading}
use Rattle.machine_spec.specs.Zones.{zone_bytes}
use Rattle.shared_ring.specs.Seen.{SharedSeen}
use Rattle.shared_ring.proofs.OpenAndClosed.{closed}
use Rattle.shared_laws.proofs.ClosedImage.{zone_left, log_left}
use Rattle.shared_ring.proofs.shared.Shared.close.Goals as goal

pub returns-clause-left : goal.returns-clause-left
returns-clause-left c = λ h l.
    c.into_bytes.ensures ∙ c.join.ensures
    ∙ ap (λ (v : SharedSeen). concat v.region.spans ++ v.region.rest) c.self.view_is ∙ closed h c.args.self l

pub returns-clause-zone : goal.returns-clause-zone
returns-clause-zone c = λ h l. ap (zone_bytes h.zone) (c.into_bytes.ensures ∙ c.join.ensures
    ∙ ap (λ (v : SharedSeen). concat v.region.spans ++ v.region.rest) c.self.view_is ∙ closed h c.args.self l)
    ∙ zone_left h l.can

pub returns-clause-log : goal.returns-clause-log
returns-clause-log c = λ h l none. ap (λ bytes. (zone_reading h.zone (zone_bytes h.zone bytes)).log)
    (c.into_bytes.ensures ∙ c.join.ensures
    ∙ ap (λ (v : SharedSeen). concat v.region.spans ++ v.region.rest) c.self.view_is ∙ closed h c.args.self l)
    ∙ log_left h l.can none
