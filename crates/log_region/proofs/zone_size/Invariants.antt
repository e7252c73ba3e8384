-- No size that was passed over has room. For the loop of `zone_size`.
use Rattle.std.proofs.Common.{◌≡◌, ◌+◌, nat_lt, drop}
use Rattle.std.specs.List.{find}
use Rattle.log_region.proofs.zone_size.Given as goal

abbrev pub invariant-loop-size : goal.invariant-loop-size
invariant-loop-size l = find (λ size. nat_lt (12 + l.len) size) (drop l.size-index l.size-items)
    ≡ find (λ size. nat_lt (12 + l.len) size) l.size-items
