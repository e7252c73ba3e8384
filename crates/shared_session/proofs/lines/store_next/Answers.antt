-- The bytes stored for an open ticket are the line's operation. For `store_next`.
use Rattle.std.proofs.Common.{sym, ◌∙◌}
use Rattle.shared_spec.specs.Calls.{open_call}
use Rattle.shared_spec.specs.Histories.{shared_zone}
use Rattle.shared_session.proofs.Steps.{stored}
use Rattle.shared_session.proofs.lines.store_next.Goals as goal

pub returns-clause-done : goal.returns-clause-done
returns-clause-done c = λ h l. stored h c.args.ticket c.args.count (open_call (shared_zone h).calls c.args.ticket)
    c.store_bytes.new.shared (sym c.if-not-is_open.false ∙ c.is_open.ensures h l) (c.store_bytes.ensures h l)
