-- A text that doesn't parse, or that a number doesn't print as, is no number of a dump. For
-- `whole_number`.
use Rattle.zone_blk.proofs.Texts.{no-decimal, other-decimal}
use Rattle.zone_blk.proofs.names.whole_number.Goals as goal

pub returns-else-eq : goal.returns-else-eq
returns-else-eq c = other-decimal c.args.text.now c.format.result.now c.parse.result c.in-Ok.number c.eq.result
    c.parse.ensures.value.0 c.in-Ok.is c.format.ensures.text c.eq.ensures c.if-eq.false

pub returns-in-Err : goal.returns-in-Err
returns-in-Err c = no-decimal c.args.text.now c.parse.result _ c.parse.ensures.value.0 c.in-Err.is
