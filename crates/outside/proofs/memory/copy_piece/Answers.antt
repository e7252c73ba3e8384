-- The bytes copied are the front of what is left. For `copy_piece`.
use Rattle.std.proofs.Common.{arith, ◌≡◌, take, drop, length, ◌-◌}
use Rattle.std.proofs.lemmas.Grind.{common_steps}
use Rattle.outside.proofs.Taken.{rest_taken}
use Rattle.outside.proofs.memory.copy_piece.Goals as goal

pub returns-clause-given : goal.returns-clause-given
returns-clause-given c =
    let n = c.min-count.result in
    let piece : c.copy_from_slice.new.self ≡ take n (drop c.args.at c.args.from.now) =
    grind (arith, common_steps, c.copy_from_slice.ensures.after) in
    let len : length c.copy_from_slice.new.self ≡ n = grind (arith, common_steps, c.copy_from_slice.ensures.len) in
    rest_taken c.args.at n c.args.from.now c.copy_from_slice.new.self _ piece len
