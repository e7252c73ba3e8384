-- What was found lies within the image. For `other_words`.
use Rattle.report_tool.proofs.BetterWords.{found_within}
use Rattle.report_tool.proofs.better.other_words.Goals as goal

pub found_words-requires : goal.found_words-requires
found_words-requires c =
    found_within c.known.result c.args.image.now c.in_ok-found.field-0 c.in-Some.found c.in-Some.is c.in_ok-found.ensures
