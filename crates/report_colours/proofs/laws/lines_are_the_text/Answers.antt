-- A text cut at a byte and joined by it is the text
use Rattle.std.proofs.lemmas.List.Splits.{join_with_byte-slice_split}
use Rattle.report_colours.proofs.laws.lines_are_the_text.Goals as goal

pub returns : goal.returns
returns c = join_with_byte-slice_split 10
