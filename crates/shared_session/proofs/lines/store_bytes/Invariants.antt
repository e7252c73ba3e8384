-- So many steps of the call are made. For the loop of `store_bytes`.
use Rattle.std.proofs.Common.{◌≤◌, ◌-◌}
use Rattle.shared_spec.specs.Histories.{History}
use Rattle.shared_ring.specs.Seen.{IsLeftBy}
use Rattle.script_spec.specs.SharedScripts.{with_steps}
use Rattle.shared_session.proofs.lines.store_bytes.Given as goal

-- so many steps were made
abbrev pub invariant-steps : goal.invariant-steps
invariant-steps l = record {
  within : l.made ≤ l.count;
  left : (h : History) → IsLeftBy h l.initial.shared → IsLeftBy (with_steps h l.ticket l.made) l.shared;
}

abbrev pub decreases-steps : goal.decreases-steps
decreases-steps l = l.count - l.made
