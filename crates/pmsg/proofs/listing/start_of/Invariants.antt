-- For each place from `at` on it is known whether entries follow, and the first from which they do
-- is `start`. For the loop of `start_of`.
use Rattle.std.proofs.Common.{◌≡◌, ◌≤◌, ◌+◌, length, drop, true}
use Rattle.pmsg_spec.specs.Entries.{are_entries, entries_from, listed}
use Rattle.pmsg.specs.Follow.{FollowFrom}
use Rattle.pmsg.proofs.listing.start_of.Given as goal

abbrev pub invariant-places : goal.invariant-places
invariant-places l = record {
  within : l.at ≤ length l.bytes;
  len : length l.follow.items ≡ length l.bytes + 1;
  known : FollowFrom l.bytes l.at l.follow.items;
  start : l.start ≤ length l.bytes;
  entries : are_entries (drop l.start l.bytes) ≡ true;
  first : entries_from l.at (drop l.at l.bytes) ≡ listed l.start 0 (drop l.start l.bytes);
}

abbrev pub decreases-places : goal.decreases-places
decreases-places l = l.at
