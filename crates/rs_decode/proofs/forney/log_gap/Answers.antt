-- Two locators that differ have a gap that is not 0, so it has a logarithm. For `log_gap`.
use Rattle.std.proofs.Common.{sym, ap, ◌∙◌}
use Rattle.code_spec.specs.Field.{gf_add}
use Rattle.decoder_laws.proofs.Forney.{gap_some}
use Rattle.rs_decode.proofs.forney.log_gap.Goals as goal

pub log-requires : goal.log-requires
log-requires c = λ e. gap_some c.args.other c.args.power c.requires.below c.requires.own c.requires.differ
    (sym (c.add.ensures ∙ ap (gf_add 1) c.pow_ratio.ensures) ∙ e)
