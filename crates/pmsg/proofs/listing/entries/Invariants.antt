-- The entries are those so far and those from `at` on, from which whole entries follow up to the
-- end. For the loop of `entries`.
use Rattle.std.proofs.Common.{◌≡◌, ◌≤◌, ◌-◌, ◌++◌, length, drop, true}
use Rattle.pmsg_spec.specs.Entries.{are_entries, entries, listed}
use Rattle.pmsg.proofs.listing.entries.Given as goal

abbrev pub invariant-entries : goal.invariant-entries
invariant-entries l = record {
  within : l.at ≤ length l.bytes;
  follow : are_entries (drop l.at l.bytes) ≡ true;
  so_far : entries l.bytes ≡ l.all.items ++ listed l.at 0 (drop l.at l.bytes);
}

abbrev pub decreases-entries : goal.decreases-entries
decreases-entries l = length l.bytes - l.at
