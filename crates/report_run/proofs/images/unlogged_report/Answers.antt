-- The image could not be read, or it is a storage, whose report follows, or its layout is looked for. For
-- `unlogged_report`.
use Rattle.std.proofs.Common.{subst, Option}
use Rattle.storage_report.specs.declared.storage.HeldStorage.{HeldStorage}
use Rattle.report_run.specs.Messages.{seen}
use Rattle.storage_report.specs.Held.{IsLookedAt}
use Rattle.report_run.proofs.StorageEnds.{unread, by_storage, by_layout}
use Rattle.report_run.proofs.images.unlogged_report.Goals as goal

pub returns-in-Err-clause-reported : goal.returns-in-Err-clause-reported
returns-in-Err-clause-reported g c =
    unread c.args.asked.now c.args.known.now c.args.path.now (g.M.Load.holds c.args.image.now)
    (g.O.Sink.given c.args.out.now) (g.O.Sink.given c.args.out.now) (g.M.Load.faults c.args.image.now)
    (g.M.Load.faults c.storage_of.new.image) (g.O.Sink.faults c.args.out.now) (g.O.Sink.faults c.args.out.now)
    (seen (g.E.Sink.given c.args.messages.now.errors) (g.E.Sink.faults c.args.messages.now.errors)
    c.args.messages.now.is_lost) c.in-Err.why c.in-Err.ensures.unlooked

pub returns-in-Ok-Some-clause-reported : goal.returns-in-Ok-Some-clause-reported
returns-in-Ok-Some-clause-reported g c =
    by_storage c.args.asked.now c.args.known.now c.args.path.now (g.M.Load.holds c.args.image.now)
    (g.O.Sink.given c.args.out.now) (g.O.Sink.given c.report_storage.new.out) (g.M.Load.faults c.args.image.now)
    (g.M.Load.faults c.storage_of.new.image) (g.O.Sink.faults c.args.out.now)
    (g.O.Sink.faults c.report_storage.new.out) c.in-Ok-Some.storage _ _
    c.report_storage.result
    (subst (λ (o : Option HeldStorage). IsLookedAt c.args.asked.now.storages (g.M.Load.holds c.args.image.now) o)
    c.in-Ok-Some.field-0-is c.in-Ok-Some.ensures.looked)
    c.in-Ok-Some.ensures.no_fault c.report_storage.ensures.reported

pub returns-in-Ok-None-clause-reported : goal.returns-in-Ok-None-clause-reported
returns-in-Ok-None-clause-reported g c =
    by_layout c.args.asked.now c.args.known.now c.args.path.now (g.M.Load.holds c.args.image.now)
    (g.O.Sink.given c.args.out.now) (g.O.Sink.given c.sought_report.new.out) (g.M.Load.faults c.args.image.now)
    (g.M.Load.faults c.sought_report.new.image) (g.O.Sink.faults c.args.out.now)
    (g.O.Sink.faults c.sought_report.new.out) (g.M.Load.holds c.storage_of.new.image)
    (g.M.Load.faults c.storage_of.new.image) _ _ c.sought_report.result
    (subst (λ (o : Option HeldStorage). IsLookedAt c.args.asked.now.storages (g.M.Load.holds c.args.image.now) o)
    c.in-Ok-None.field-0-is c.in-Ok-None.ensures.looked)
    c.in-Ok-None.ensures.same c.in-Ok-None.ensures.no_fault c.sought_report.ensures.reported
