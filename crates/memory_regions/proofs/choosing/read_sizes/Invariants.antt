-- The sizes so far were read, in order. For the loop of `read_sizes`.
use Rattle.std.proofs.Common.{◌≡◌, map, take}
use Rattle.std.specs.List.{AllByRecursion}
use Rattle.memory_regions.specs.declared.choosing.Reading.{Reading}
use Rattle.memory_regions.specs.Choice.{IsReading}
use Rattle.memory_regions.proofs.choosing.read_sizes.Given as goal

abbrev pub invariant-loop-size : goal.invariant-loop-size
invariant-loop-size l = record {
  sizes : map (λ (r : Reading). r.size) l.list.items ≡ take l.size-index l.sizes;
  answers : AllByRecursion (IsReading l.known l.bytes) l.list.items;
}
