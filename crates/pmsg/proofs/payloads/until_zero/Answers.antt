-- The bytes before the first zero, or all of them if there is none, are the text. For
-- `until_zero`.
use Rattle.pmsg.proofs.Texts.{before_place, no_place}
use Rattle.pmsg.proofs.payloads.until_zero.Goals as goal

pub returns-in-Some : goal.returns-in-Some
returns-in-Some c = before_place c.args.bytes.now c.in-Some.len c.in-Some.ensures.value

pub returns-in-None : goal.returns-in-None
returns-in-None c = no_place c.args.bytes.now c.in-None.ensures.value
