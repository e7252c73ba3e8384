-- An empty log keeps no lines. For `KLog::new`.
use Rattle.std.proofs.Common.{ap, sym, ◌∙◌}
use Rattle.std.proofs.lemmas.List.Elements.{All-nil}
use Rattle.kmsg_spec.specs.Bodies.{bytes_of}
use Rattle.kmsg_dump.specs.Kept.{IsLine}
use Rattle.kmsg_dump.proofs.LastLines.{none_of_none}
use Rattle.kmsg_dump.proofs.KLog.new.Goals as goal

pub returns-clause-kept : goal.returns-clause-kept
returns-clause-kept c = record {
  lines = All-nil IsLine;
  bytes = ap (λ b. b.items) c.in_ok-ring.ensures ∙ sym (ap bytes_of (none_of_none c.in_ok-ring.ring.capacity));
}
