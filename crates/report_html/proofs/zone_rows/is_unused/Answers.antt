-- The blocks of the parts are those that are tested
use Rattle.std.proofs.Common.{◌∙◌, ◌==◌, List, length, ap}
use Rattle.zone_spec.specs.declared.PartState.{PartState}
use Rattle.zone_spec.specs.PartStates.{PartStates}
use Rattle.report_html.proofs.zone_rows.is_unused.Goals as goal

pub returns : goal.returns
returns c =
    c.is_empty.ensures
    ∙ ap (λ (blocks : List PartState). length blocks == 0)
    (c.as_slice-blocks.ensures.value ∙ ap (λ (p : PartStates). p.blocks) c.states.view_is)
