-- The zones so far are those before and the row's first. For the loop of `add_row`.
use Rattle.std.proofs.Common.{◌≡◌, ◌+◌, ◌*◌, ◌++◌, map}
use Rattle.std.specs.List.{range_with_len}
use Rattle.zone_spec.specs.Layout.{zone_at}
use Rattle.ramoops_layout.proofs.laying.add_row.Given as goal

-- the zones so far
abbrev pub invariant-loop-index : goal.invariant-loop-index
invariant-loop-index l = l.zones.items ≡ l.initial.zones.items ++ map
    (λ i. zone_at l.p l.row.kind l.row.size i (l.at + i * l.row.size)) (range_with_len 0 l.index)
