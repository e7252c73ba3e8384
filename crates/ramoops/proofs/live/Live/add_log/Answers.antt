-- A blank zone is then told the log; one that is not blank stays as it is. For `add_log`, with
-- which a move refills zones.
use Rattle.std.proofs.Common.{◌<◌, length, List, sym, subst}
use Rattle.zone_spec.specs.declared.Zone.{Zone}
use Rattle.ramoops.specs.Refilling.{SaysBlank}
use Rattle.ramoops.proofs.LogAppend.{log_added, log_left}
use Rattle.ramoops.proofs.live.Live.add_log.Goals as goal

pub store_all-stored-requires : goal.store_all-stored-requires
store_all-stored-requires c = subst (λ (l : List Zone). c.args.i < length l) (sym c.begin_log.ensures.layout) c.requires

pub returns-then-is_blank : goal.returns-then-is_blank
returns-then-is_blank c = log_added c.args.self.now c.begin_log.new.self _ c.args.i c.args.log
    (subst (SaysBlank c.args.i c.args.self.now) c.if-is_blank.true c.is_blank.ensures)
    c.begin_log.ensures.begun c.store_all-stored.ensures.stored

pub returns-else-is_blank : goal.returns-else-is_blank
returns-else-is_blank c = log_left c.args.self.now c.args.i c.args.log
    (subst (SaysBlank c.args.i c.args.self.now) c.if-is_blank.false c.is_blank.ensures)
