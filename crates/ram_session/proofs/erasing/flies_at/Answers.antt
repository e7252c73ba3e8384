-- No zone, a zone of another record, and one with or without a flight: each answers as defined.
-- For `flies_at`.
use Rattle.std.proofs.Common.{false}
use Rattle.ram_session.proofs.ErasedZones.{none_there, not_flying, flying_told, flying_nowhere}
use Rattle.ram_session.proofs.erasing.flies_at.Goals as goal

pub returns-in_default : goal.returns-in_default
returns-in_default c = none_there c.args.live.now c.args.i c.args.name c.in_default.ensures.name

pub returns-then-not-is_in : goal.returns-then-not-is_in
returns-then-not-is_in c = not_flying c.args.live.now c.args.i c.args.name c.in-Some.zone c.is_in.result
    c.in-Some.ensures.name c.is_in.ensures c.if-not-is_in.true

pub returns-in-Ok : goal.returns-in-Ok
returns-in-Ok c = flying_told c.args.live.now c.args.i c.args.name c.in-Some.zone c.is_in.result
    c.in-Some.ensures.name c.is_in.ensures c.in-Some.ensures.first c.if-not-is_in.false c.in-Ok.flies
    c.in-Ok.ensures.flies

pub returns-in-Err : goal.returns-in-Err
returns-in-Err c = flying_nowhere c.args.live.now c.args.i c.args.name c.in-Some.zone c.is_in.result
    c.in-Some.ensures.name c.is_in.ensures c.in-Some.ensures.first c.if-not-is_in.false false c.in-Err.ensures.refused.1
