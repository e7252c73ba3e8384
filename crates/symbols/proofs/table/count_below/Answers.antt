-- In a ranked list addresses do not fall, so all functions at or below an address stand before the
-- others. For `count_below`.
use Rattle.std.proofs.Common.{◌≡◌, ℕ, ◌*◌, ◌+◌, ◌-◌, ◌<◌, ◌≤◌, List, true, false, length, get_or, leb, leb-true}
use Rattle.std.proofs.Common.{leb-false, arith, rules}
use Rattle.std.proofs.lemmas.Bool.Decides.{nat_tests}
use Rattle.std.proofs.lemmas.List.Sorted.{IsPartitionPoint-from_clause, IsPartitionedBy-leb}
use Rattle.std.specs.List.Sorted.{IsNonDecreasingBy}
use Rattle.symbol_spec.specs.declared.Symbol.{Symbol}
use Rattle.symbols.specs.Ranks.{rank, IsRanked}
use Rattle.symbols.proofs.Nearest.{addresses_rise}
use Rattle.symbols.proofs.table.count_below.Goals as goal

pub returns-clause-below : goal.returns-clause-below
returns-clause-below c =
    let parted = IsPartitionedBy-leb (λ (s : Symbol). s.address) _ c.args.address (addresses_rise c.args.ranked.now c.requires) in
    let point = IsPartitionPoint-from_clause (λ (s : Symbol). leb s.address c.args.address) _ _ c.partition_point.ensures.partitioned parted (λ a r q k. search rules) in
    λ k d h. leb-true _ _ (point.0 k d (omega (arith, c.partition_point.ensures.bound)) h)

pub returns-clause-above : goal.returns-clause-above
returns-clause-above c =
    let parted = IsPartitionedBy-leb (λ (s : Symbol). s.address) _ c.args.address (addresses_rise c.args.ranked.now c.requires) in
    let point = IsPartitionPoint-from_clause (λ (s : Symbol). leb s.address c.args.address) _ _ c.partition_point.ensures.partitioned parted (λ a r q k. search rules) in
    λ k d low high. leb-false _ _ (point.1 k d low high)
