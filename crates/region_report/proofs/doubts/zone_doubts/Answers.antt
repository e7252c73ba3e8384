-- The zone at a place is valid
use Rattle.std.proofs.Common.{◌∙◌, sym}
use Rattle.region_report.proofs.doubts.zone_doubts.Goals as goal

pub doubts_by-requires : goal.doubts_by-requires
doubts_by-requires c = λ z e. c.requires.valid c.in-Some.i z (sym c.zone_at.ensures ∙ e)
