-- The counts are those of the first `i` zones, and small. For the loop of `counts_of`.
use Rattle.std.proofs.Common.{◌≡◌, ◌*◌, ◌≤◌, ◌^◌, take}
use Rattle.prz_read.specs.Saving.{saved}
use Rattle.pstore_records.specs.Counts.{has_parity, corrected_in, bad_in}
use Rattle.pstore_records.proofs.notices.counts_of.Given as goal

abbrev pub invariant-loop-i : goal.invariant-loop-i
invariant-loop-i l =
    let zones = take l.i (saved l.logs) in record {
      parity : l.counts.has_parity ≡ has_parity l.name zones;
      corrected : l.counts.corrected ≡ corrected_in l.name zones;
      bad : l.counts.bad ≡ bad_in l.name zones;
      few : l.counts.corrected ≤ 2 ^ 32 * l.i;
      rare : l.counts.bad ≤ 2 ^ 32 * l.i;
    }
