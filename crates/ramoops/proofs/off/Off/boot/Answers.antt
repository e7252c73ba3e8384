-- The spans fit, each zone is read and settled, and the live machine stands for the booted state.
-- On a refusal the machine is as it was.
use Rattle.std.proofs.Common.{List, length, map, sym, ap, ◌∙◌, subst}
use Rattle.ramoops_layout.specs.Laid.{params_of, zones_of}
use Rattle.prz_read.specs.Saving.{saved}
use Rattle.ramoops.specs.declared.report.ZoneReport.{ZoneReport}
use Rattle.ramoops.specs.Reports.{report_seen}
use Rattle.ramoops.specs.LiveSeen.{LiveSeen}
use Rattle.ramoops.specs.Booted.{Booted}
use Rattle.ramoops.proofs.Boots.{open_fits, open_whole, open_closed, open_rests, logs_from, boot_runs, boot_is}
use Rattle.ramoops.proofs.Boots.{boot_writes_all}
use Rattle.ramoops.proofs.off.Off.boot.Goals as goal

pub prepare-requires-clause-spans : goal.prepare-requires-clause-spans
prepare-requires-clause-spans c = open_fits c.args.self c.in_ok-open.open c.in_ok-open.ensures.«open»

pub settle_all-requires-clause-spans : goal.settle_all-requires-clause-spans
settle_all-requires-clause-spans c = open_fits c.args.self c.prepare.new.self
    (c.prepare.ensures.same c.args.self c.in_ok-open.ensures.«open»)

pub settle_all-requires-clause-logs : goal.settle_all-requires-clause-logs
settle_all-requires-clause-logs c = logs_from c.args.self c.prepare.new.self
    (c.prepare.ensures.same c.args.self c.in_ok-open.ensures.«open»)
    c.in-Ok.prepared c.in-Ok.ensures.prepared

pub close-requires-clause-size : goal.close-requires-clause-size
close-requires-clause-size c = ap length (open_whole c.args.self c.prepare.new.self
    (c.prepare.ensures.same c.args.self c.in_ok-open.ensures.«open»))
    ∙ (c.prepare.ensures.same c.args.self c.in_ok-open.ensures.«open»).size

pub close-requires-clause-resting : goal.close-requires-clause-resting
close-requires-clause-resting c = open_rests c.args.self c.prepare.new.self
    (c.prepare.ensures.same c.args.self c.in_ok-open.ensures.«open»)

pub returns-in-Err-clause-refused : goal.returns-in-Err-clause-refused
returns-in-Err-clause-refused c = c.close.ensures ∙ open_closed c.args.self c.prepare.new.self
    (c.prepare.ensures.same c.args.self c.in_ok-open.ensures.«open»)

pub live-requires-clause-running : goal.live-requires-clause-running
live-requires-clause-running c = boot_runs c.args.self c.prepare.new.self
    (c.prepare.ensures.same c.args.self c.in_ok-open.ensures.«open») c.in-Ok.prepared
    c.in-Ok.ensures.prepared c.settle_all.new.spans c.settle_all.ensures

pub returns-in-Ok-clause-booted : goal.returns-in-Ok-clause-booted
returns-in-Ok-clause-booted c layout mem s stands =
    subst (λ (v : LiveSeen). Booted layout mem s v (saved c.in-Ok.prepared.logs) (map report_seen c.from_vec.result))
    (sym c.live.ensures)
    (subst (λ (rs : List ZoneReport). Booted layout mem s
    (record {
      layout = zones_of c.prepare.new.self.layout;
      mem = (params_of c.prepare.new.self.layout).mem;
      spans = c.settle_all.new.spans;
      zones = c.in-Ok.prepared.held.items;
      cursor = 0;
    })
    (saved c.in-Ok.prepared.logs) (map report_seen rs)) (sym c.from_vec.ensures)
    (boot_is c.args.self c.prepare.new.self (c.prepare.ensures.same c.args.self c.in_ok-open.ensures.«open»)
    c.in-Ok.prepared c.in-Ok.ensures.prepared
    c.settle_all.new.spans c.settle_all.ensures layout mem s stands))

pub returns-in-Ok-clause-stores : goal.returns-in-Ok-clause-stores
returns-in-Ok-clause-stores c =
    ap (λ (v : LiveSeen). v.spans.made) c.live.ensures
    ∙ boot_writes_all c.args.self c.prepare.new.self
    (c.prepare.ensures.same c.args.self c.in_ok-open.ensures.«open») c.settle_all.new.spans c.settle_all.ensures
