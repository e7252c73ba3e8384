-- The words compute
use Rattle.std.proofs.Common.{refl}
use Rattle.kernel_line.specs.Line.{words_from, line_words, layout_words}
use Rattle.kernel_line.proofs.laws.a_storage_has_words_too.Goals as goal

pub returns : goal.returns
unfolding words_from line_words layout_words
returns c = refl
