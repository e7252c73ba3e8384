-- What comes of the member here comes of the file. For the loop of `members`.
use Rattle.std.proofs.Common.{◌≤◌, ◌-◌, length, drop}
use Rattle.gzip_spec.specs.Headers.{header_end}
use Rattle.gzip_spec.specs.Files.{Outcome, Next, Leads, Gives}
use Rattle.gzip.specs.Goes.{Ends}
use Rattle.gzip.proofs.members.Given as goal

abbrev pub invariant-members : goal.invariant-members
invariant-members l = record {
  inside : l.at ≤ length l.bytes;
  short : length l.text.items ≤ l.most;
  here : (next : Next) (outcome : Outcome)
      → Leads l.most (header_end l.other (drop l.at l.bytes)) (drop l.at l.bytes) l.text.items next
      → Ends l.most next outcome → Gives l.most l.bytes outcome;
}

abbrev pub decreases-members : goal.decreases-members
decreases-members l = length l.bytes - l.at
