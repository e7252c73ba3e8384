-- The first 36 bytes of a log tell whether it begins with a time line. For `begins_with_line`.
use Rattle.std.proofs.Common.{Option, refl, ap, ◌∙◌}
use Rattle.std.specs.Option.{is_some}
use Rattle.zone_spec.specs.declared.TimeLine.{TimeLine}
use Rattle.zone_boot.proofs.Lines.{line-copied}
use Rattle.zone_boot.proofs.deciding.begins_with_line.Goals as goal

pub returns : goal.returns
returns c =
    c.is_some.ensures ∙ ap (λ (o : Option TimeLine). is_some o) c.read_line.ensures
    ∙ line-copied _ _ c.copy_log-count.new.out c.copy_log-count.result c.copy_log-count.ensures.len refl
    c.copy_log-count.ensures.copied
