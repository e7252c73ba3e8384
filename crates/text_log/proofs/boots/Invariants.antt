-- The boots so far and those from here on are the boots; they are joined up to where the next one begins. For the loop
-- of `boots`.
use Rattle.std.proofs.Common.{◌≡◌, ◌≤◌, ◌-◌, ◌++◌, length}
use Rattle.text_log_spec.specs.Boots.{spans, boots_of, Joined}
use Rattle.text_log.proofs.Firsts.{rest}
use Rattle.text_log.proofs.boots.Given as goal

abbrev pub invariant-lines : goal.invariant-lines
invariant-lines l = record {
  inside : l.from ≤ length l.text;
  are : boots_of l.text ≡ l.boots.items ++ spans l.from (rest l.text l.is_booting l.at) (length l.text);
  joined : Joined 0 l.boots.items l.from;
}

abbrev pub decreases-lines : goal.decreases-lines
decreases-lines l = length l.text - l.at
