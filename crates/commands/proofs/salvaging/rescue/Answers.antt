-- The reading of a ring, put or refused
use Rattle.std.proofs.Common.{refl, subst, Err}
use Rattle.std.specs.Io.KnownBytes.{Appends}
use Rattle.outside.specs.Outside.{AppendsFront}
use Rattle.zone_spec.specs.Reading.{ZoneReading}
use Rattle.command_spec.specs.Commands.{Rescue}
use Rattle.commands.specs.Plans.{plan_for}
use Rattle.commands.proofs.DumpEnds.{ring_put, ring_front, ring_refused}
use Rattle.commands.proofs.Due.{none_put}
use Rattle.commands.proofs.salvaging.rescue.Goals as goal

pub returns-in-Err-ring_at-clause-ended : goal.returns-in-Err-ring_at-clause-ended
returns-in-Err-ring_at-clause-ended g c = λ left f.
    ring_refused (plan_for (Rescue c.args.at c.args.name) c.args.layout) _ _ c.in-Ok.scan c.in-Ok.ensures.read
    c.args.at c.args.name refl c.in-Err-ring_at.fault c.ring_stop.result c.ring_stop.ensures c.in-Err-ring_at.ensures
    (record { left = refl; source = refl }) (record { given = refl; holds = c.in-Ok.ensures.same })

pub returns-in-Ok-put-clause-ended : goal.returns-in-Ok-put-clause-ended
returns-in-Ok-put-clause-ended g c = λ left f.
    ring_put (plan_for (Rescue c.args.at c.args.name) c.args.layout) _ _ c.in-Ok.scan c.in-Ok.ensures.read
    c.args.at c.args.name refl c.in-Ok-ring_at.reading c.in-Ok-ring_at.ensures c.in-Ok.ensures.same
    (record { left = refl; source = refl }) (subst
    (λ (r : ZoneReading). Appends (g.O.Sink.given c.args.out.now) (g.O.Sink.given c.put.new.self) r.log)
    c.reading.view_is (rw c.as_slice.ensures at c.in-Ok-put.ensures.bytes))

pub returns-clause-ended : goal.returns-clause-ended
returns-clause-ended g c = λ left f.
    ring_front (plan_for (Rescue c.args.at c.args.name) c.args.layout) _ _ c.in-Ok.scan c.in-Ok.ensures.read
    c.args.at c.args.name refl c.in-Ok-ring_at.reading c.in-Ok-ring_at.ensures c.in-Ok.ensures.same
    (record { left = refl; source = refl }) (subst
    (λ (r : ZoneReading). AppendsFront (g.O.Sink.given c.args.out.now) (g.O.Sink.given c.put.new.self) r.log)
    c.reading.view_is (rw c.as_slice.ensures at c.in-Err-put.ensures.bytes))

pub returns-in-Err-clause-put : goal.returns-in-Err-clause-put
returns-in-Err-clause-put g c = none_put (Err c.in-Err.stop) _ _ refl

pub returns-in-Err-ring_at-clause-put : goal.returns-in-Err-ring_at-clause-put
returns-in-Err-ring_at-clause-put g c = none_put (Err c.ring_stop.result) _ _ refl
