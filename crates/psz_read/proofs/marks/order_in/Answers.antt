-- The first block that shows an order decides. For `order_in`.
use Rattle.std.proofs.Common.{◌/◌, ◌∙◌, sym, arith, length}
use Rattle.psz_spec.specs.Marks.{order_in}
use Rattle.psz_read.proofs.Rests.{order_own, order_other, order_end}
use Rattle.psz_read.proofs.marks.order_in.Goals as goal

pub returns-in-Some : goal.returns-in-Some
returns-in-Some c = order_own (length c.args.image.now / 512) c.loop-block.block c.args.image.now c.in-Some.order
    (order_in c.args.image.now) (omega arith) (sym c.in-Some.is ∙ c.block_order.ensures) c.loop-block.invariant

pub loop-block-preserved : goal.loop-block-preserved
loop-block-preserved c = order_other (length c.args.image.now / 512) c.loop-block.block c.args.image.now
    (order_in c.args.image.now) (omega arith) (sym c.in_default.is ∙ c.block_order.ensures) c.loop-block.invariant

pub returns : goal.returns
returns c = order_end (length c.args.image.now / 512) c.loop-block.block c.args.image.now (order_in c.args.image.now)
    (omega arith) c.loop-block.invariant
