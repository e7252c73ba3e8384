-- A text with the dumps' front reads as a dump's name; a text that has no name of a record gives
-- none. For `blk_find`.
use Rattle.std.proofs.Common.{codes}
use Rattle.zone_blk.proofs.Texts.{dump-name, prefixed, no-name}
use Rattle.zone_blk.proofs.names.blk_find.Goals as goal

pub returns-in-Some : goal.returns-in-Some
returns-in-Some c = dump-name c.args.text.now c.in-Some.behind.now c.dump_named.result
    (prefixed (codes "dmesg-pstore_blk-") c.args.text.now c.in-Some.behind.now c.in-Some.ensures.cases)
    c.dump_named.ensures

pub returns-in-None : goal.returns-in-None
returns-in-None c = no-name c.args.text.now c.eq.result c.eq-2.result c.eq.ensures c.if-eq.false c.eq-2.ensures
    c.if-eq-2.false c.in-None.ensures.cases
