-- The flips so far, and then those that are left, are the draws. For the loop of `draw_masks`.
use Rattle.std.proofs.Common.{◌≡◌, ◌≤◌, ◌+◌, ◌-◌}
use Rattle.std.specs.List.{range_with_len}
use Rattle.script_spec.specs.Generated.{draw_over, drawn_flip}
use Rattle.ram_generator.proofs.draws.Draws.draw_masks.Given as goal

abbrev pub invariant-masks : goal.invariant-masks
invariant-masks l = (l.i ≤ l.count) × (draw_over drawn_flip l.flips.items
    (range_with_len (l.place + l.i) (l.count - l.i)) l.self
    ≡ draw_over drawn_flip l.initial.flips.items (range_with_len l.place l.count) l.initial.self)
