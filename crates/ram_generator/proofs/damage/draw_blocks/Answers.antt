-- The flips of one block more follow those drawn so far. For `draw_blocks`.
use Rattle.std.proofs.Common.{◌≡◌, ◌*◌, ◌-◌, ap, arith}
use Rattle.zone_spec.specs.Parts.{Block, part_len}
use Rattle.script_spec.specs.Generated.{drawn_flips}
use Rattle.ram_generator.proofs.Over.{over_more, over_all}
use Rattle.ram_generator.proofs.PartFlips.{blocks_start, block_next, blocks_end}
use Rattle.ram_generator.proofs.damage.draw_blocks.Goals as goal

pub parts-init : goal.parts-init
parts-init c = (
  omega arith,
  blocks_start c.args.most c.args.zone.now c.div_ceil-blocks.result c.args.draws.now
      c.args.flips.now.items c.requires.valid c.div_ceil-blocks.ensures,
)

pub parts-preserved : goal.parts-preserved
parts-preserved c =
    let z = c.args.zone.now in
    let b = c.parts.b in
    let len : c.min-end.result - z.block * b ≡ part_len z (Block b) = ap (λ k. k - z.block * b) c.min-end.ensures in (
      omega (arith, c.parts-test.true),
      over_more (drawn_flips c.args.most z) c.parts.flips.items c.draw_flips.new.flips.items (Block b) _ _ c.parts.draws
          c.draw_flips.new.draws _ (block_next b c.div_ceil-blocks.result c.parts-test.true)
          (c.in_ok-draw_flips.ensures z (Block b) (omega arith) len) c.parts.invariant.1,
    )

pub returns : goal.returns
returns c = over_all (drawn_flips c.args.most c.args.zone.now) c.parts.flips.items _ c.parts.draws _
    (blocks_end c.parts.b c.div_ceil-blocks.result (omega (arith, c.parts-test.false, c.parts.invariant.0)))
    c.parts.invariant.1
