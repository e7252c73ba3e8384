-- What stands after the dumps' front is a number, with or without the ending of a compressed dump.
-- For `dump_named`.
use Rattle.zone_blk.proofs.Texts.{packed-name, plain-name, stripped}
use Rattle.zone_blk.proofs.names.dump_named.Goals as goal

pub returns-in-Some : goal.returns-in-Some
returns-in-Some c = packed-name c.args.behind.now c.in-Some.digits.now c.numbered.result
    (stripped _ c.args.behind.now c.in-Some.digits.now c.in-Some.ensures.cases) c.numbered.ensures

pub returns-in-None : goal.returns-in-None
returns-in-None c = plain-name c.args.behind.now c.numbered-in-None.result c.in-None.ensures.cases
    c.numbered-in-None.ensures
