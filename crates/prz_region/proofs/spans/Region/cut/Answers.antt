-- The zones of a layout lie side by side, as `cut_zones` wants them. For `cut`.
use Rattle.prz_region.proofs.spans.Region.cut.Goals as goal

pub cut_zones-requires-clause-side_by_side : goal.cut_zones-requires-clause-side_by_side
cut_zones-requires-clause-side_by_side c = λ i z e. (c.zones.ensures.laid_out.valid i z e).1
