-- A move has exactly one word `to`: none gives none, a second one gives none, and one parts the
-- words. For `move_image`.
use Rattle.std.proofs.Common.{◌+◌, ◌∙◌, sym, ap, is_some, Some, true, false}
use Rattle.command_line.proofs.MoveWords.{no_to, one_to, rest_is}
use Rattle.command_line.proofs.words.move_image.Goals as goal

pub returns-in_err-place : goal.returns-in_err-place
returns-in_err-place c =
    rw c.from_residual.ensures (no_to c.args.words.now (sym c.find_to.ensures ∙ c.in_err-place.was))

pub returns-then-is_some : goal.returns-then-is_some
returns-then-is_some c = one_to c.args.words.now _ c.in_ok-place.place true
    (sym c.find_to.ensures ∙ c.in_ok-place.was) (rest_is c.args.words.now (c.in_ok-place.place + 1))
    (ap is_some (sym c.find_to-2.ensures) ∙ sym c.is_some.ensures ∙ c.if-is_some.true)

pub returns : goal.returns
returns c = one_to c.args.words.now _ c.in_ok-place.place false
    (sym c.find_to.ensures ∙ c.in_ok-place.was) (rest_is c.args.words.now (c.in_ok-place.place + 1))
    (ap is_some (sym c.find_to-2.ensures) ∙ sym c.is_some.ensures ∙ c.if-is_some.false)
    ∙ ap Some (sym c.plain.ensures)
