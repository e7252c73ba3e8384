-- The row `corrected_ring`: a ring of a dump whose header and log are corrected. Computed with
-- `GivenCodewords`.
use Rattle.std.proofs.Common.{[], ◌∷◌, refl, ap, ◌∙◌}
use Rattle.command_spec.specs.Texts.{rings_text}
use Rattle.command_spec.specs.Commands.{shows, wanted_ring}
use Rattle.command_examples.specs.Words.{shown}
use Rattle.command_examples.proofs.Unfoldings.{computing_tool}
use Rattle.command_examples.proofs.GivenCodewords.{rings-are, read-is}
use Rattle.command_examples.proofs.corrected_ring.Goals as goal

pub returns : goal.returns
unfolding computing_tool
returns c = (
  ap (λ rings. shown (shows (rings_text rings ∷ []))) rings-are ∙ refl,
  ap (λ reading. shown (wanted_ring reading)) read-is ∙ refl,
)
