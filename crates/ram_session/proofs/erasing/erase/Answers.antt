-- A record with a flight in one of its zones is busy; else its zones are erased and its logs
-- forgotten. For `erase`.
use Rattle.std.proofs.Common.{sym, ◌∙◌}
use Rattle.ram_session.proofs.EraseLines.{busy, erased_named}
use Rattle.ram_session.proofs.erasing.erase.Goals as goal

pub returns-then-flies_in_record-clause-erased : goal.returns-then-flies_in_record-clause-erased
returns-then-flies_in_record-clause-erased c =
    busy c.args.live.now c.args.logs.now c.args.name.now c.in-Some.name (sym c.in-Some.is ∙ c.named.ensures)
    (λ layout mem s stands. sym c.if-flies_in_record.true ∙ c.flies_in_record.ensures layout mem s stands)

pub returns-clause-erased : goal.returns-clause-erased
returns-clause-erased c =
    erased_named c.args.live.now c.args.logs.now c.args.name.now c.in-Some.name
    (sym c.in-Some.is ∙ c.named.ensures) c.erase_zones.new.live c.forget_logs.new.logs
    (λ layout mem s stands. sym c.if-flies_in_record.false ∙ c.flies_in_record.ensures layout mem s stands)
    c.erase_zones.ensures c.forget_logs.ensures
