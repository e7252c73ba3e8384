-- The number of the word where the second parameters begin fits a `u32`: words without a fault are
-- few. For `lay_move`.
use Rattle.std.proofs.Common.{arith}
use Rattle.command_line.proofs.FewWords.{few_words}
use Rattle.command_line.proofs.words.lay_move.Goals as goal

pub overflow_cast-second : goal.overflow_cast-second
overflow_cast-second c = omega (arith, few_words c.args.params.now c.in-Ok.from c.in-Ok.ensures)

pub overflow_add-second : goal.overflow_add-second
overflow_add-second c = omega (arith, few_words c.args.params.now c.in-Ok.from c.in-Ok.ensures, c.requires)

pub overflow_add-second-2 : goal.overflow_add-second-2
overflow_add-second-2 c = omega (arith, few_words c.args.params.now c.in-Ok.from c.in-Ok.ensures, c.requires)
