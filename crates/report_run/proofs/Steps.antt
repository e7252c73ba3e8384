-- One of several files, behind the count of those before. `report_file` cites it.
use Rattle.std.proofs.Common.{◌≡◌, ℕ, ◌≤◌, List, Option, Bool, subst}
use Rattle.report_run.specs.declared.plans.Asked.{Asked}
use Rattle.report_run.specs.declared.running.FileEnd.{FileEnd}
use Rattle.report_run.specs.Messages.{Seen, IsCounted}
use Rattle.report_run.specs.States.{State, Reads}
use Rattle.report_run.specs.Runs.{is_counted, IsPath, IsStep}

pub step : (asked : Asked) (i all : ℕ) (path : List ℕ) (holds : Option (List ℕ)) (r q : Reads) (a b : State)
    (between : Seen) (end : FileEnd) (is_shown : Bool) → is_shown ≡ is_counted asked all
    → IsCounted is_shown i all a.errors between → r.unread ≤ q.unread
    → IsPath end asked path holds r q (record a { errors = between }) b → IsStep asked i all path holds r q a b end
step asked i all path holds r q a b between end is_shown e counted later is_path = record {
  later = later;
  between = between;
  counted = subst (λ (s : Bool). IsCounted s i all a.errors between) e counted;
  is_path = is_path;
}
