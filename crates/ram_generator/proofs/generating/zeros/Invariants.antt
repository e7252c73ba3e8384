-- The first bytes are zeros. For the loop of `zeros`.
use Rattle.std.proofs.Common.{◌≡◌, ◌≤◌, replicate}
use Rattle.ram_generator.proofs.generating.zeros.Given as goal

abbrev pub invariant-bytes : goal.invariant-bytes
invariant-bytes l = record { many : l.counter ≤ l.count; items : l.bytes.items ≡ replicate l.counter 0 }
