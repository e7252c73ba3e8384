-- The number, the place and the masks are drawn in this order, for a part of this length. For `draw_flips`.
use Rattle.ram_generator.proofs.PartFlips.{part_drawn}
use Rattle.ram_generator.proofs.damage.draw_flips.Goals as goal

pub returns : goal.returns
returns c = λ z part ea el. part_drawn c.args.most z part c.args.draws.now c.min.result c.args.len
    c.draw-count.result c.draw-count.new.self c.draw-place.result c.draw-place.new.self c.args.at
    c.args.flips.now.items _ ea el c.min.ensures c.draw-count.ensures.drawn c.draw-place.ensures.drawn
    c.in_ok-draw_masks.ensures
