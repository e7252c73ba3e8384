-- The sum is that of the logs so far, and small. For the loop of `all_oddities`.
use Rattle.std.proofs.Common.{◌≡◌, ◌*◌, ◌≤◌, ◌^◌, ℕ, List, take, map}
use Rattle.std.specs.Prelude.{sum_by}
use Rattle.std.specs.Borrow.{Bor}
use Rattle.ftrace_spec.specs.Forms.{oddities}
use Rattle.ftrace_text.proofs.forms.all_oddities.Given as goal

abbrev pub invariant-loop-log : goal.invariant-loop-log
invariant-loop-log l = record {
  summed : l.sum ≡ sum_by (oddities l.order l.form) (map (λ (log : Bor (List ℕ)). log.now) (take l.log-index l.logs));
  few : l.sum ≤ 2 ^ 64 * l.log-index;
}
