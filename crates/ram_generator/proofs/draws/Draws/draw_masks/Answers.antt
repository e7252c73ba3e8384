-- One mask more is the next draw, for the next place. For `draw_masks`.
use Rattle.std.proofs.Common.{◌+◌, arith}
use Rattle.script_spec.specs.Generated.{drawn_flip}
use Rattle.ram_generator.proofs.Over.{over_same, over_more, over_all, places_start, places_next, range_end}
use Rattle.ram_generator.proofs.DrawLoops.{flip_drawn}
use Rattle.ram_generator.proofs.draws.Draws.draw_masks.Goals as goal

pub masks-init : goal.masks-init
masks-init c = (
  omega arith,
  over_same drawn_flip c.args.flips.now.items _ _ c.args.self.now (places_start c.args.place c.args.count),
)

pub masks-preserved : goal.masks-preserved
masks-preserved c = (
  omega (arith, c.masks-test.true),
  over_more drawn_flip c.masks.flips.items c.push.new.self.items (c.args.place + c.masks.i) _ _ c.masks.self
      c.draw.new.self _ (places_next c.args.place c.masks.i c.args.count c.masks-test.true)
      (flip_drawn (c.args.place + c.masks.i) c.masks.self c.draw.result c.draw.new.self c.masks.flips.items
      c.push.new.self.items c.draw.ensures.drawn c.in_ok-push.ensures.items) c.masks.invariant.1,
)

pub returns : goal.returns
returns c = over_all drawn_flip c.masks.flips.items _ c.masks.self _ (range_end c.masks.i c.args.count _
    (omega (arith, c.masks-test.false, c.masks.invariant.0))) c.masks.invariant.1
