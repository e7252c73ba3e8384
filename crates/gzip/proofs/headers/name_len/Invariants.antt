-- The first bytes are none of them 0. For the loop of `name_len`.
use Rattle.std.proofs.Common.{◌≡◌, ◌≤◌, ◌-◌, ◌+◌, ◌==◌, not, length, drop}
use Rattle.std.specs.List.{prefix_len}
use Rattle.gzip.proofs.headers.name_len.Given as goal

abbrev pub invariant-bytes : goal.invariant-bytes
invariant-bytes l = (l.len ≤ length l.bytes)
    × (prefix_len (λ byte. not (byte == 0)) l.bytes ≡ l.len + prefix_len (λ byte. not (byte == 0)) (drop l.len l.bytes))

abbrev pub decreases-bytes : goal.decreases-bytes
decreases-bytes l = length l.bytes - l.len
