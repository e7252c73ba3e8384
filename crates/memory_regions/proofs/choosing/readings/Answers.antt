-- The sizes that are read are those that are tried. For `readings`.
use Rattle.std.proofs.Common.{◌∙◌}
use Rattle.memory_regions.proofs.choosing.readings.Goals as goal

pub returns : goal.returns
returns c = record {
  sizes_are = c.in_ok-list.ensures.sizes ∙ c.deref.ensures.value ∙ c.in_ok-sizes.ensures;
  answers = c.in_ok-list.ensures.answers;
}
