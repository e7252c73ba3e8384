-- The bytes so far, and then those that are left, are the draws. For the loop of `draw_bytes`.
use Rattle.std.proofs.Common.{◌≡◌, ◌≤◌, ◌-◌}
use Rattle.std.specs.List.{range_with_len}
use Rattle.script_spec.specs.Generated.{draw_over, drawn_number, draws}
use Rattle.ram_generator.proofs.draws.Draws.draw_bytes.Given as goal

abbrev pub invariant-bytes : goal.invariant-bytes
invariant-bytes l = (l.counter ≤ l.count) × (draw_over (drawn_number 256) l.bytes.items
    (range_with_len l.counter (l.count - l.counter)) l.self ≡ draws l.count 256 l.initial.self)
