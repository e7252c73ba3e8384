-- Each zone adds its part, if it has one. For `parts_in`.
use Rattle.std.proofs.Common.{◌+◌, ◌++◌, ap, ◌∙◌, arith, drop, List}
use Rattle.psz_spec.specs.declared.Part.{Part}
use Rattle.psz_spec.specs.Layouts.{zones_of}
use Rattle.psz_spec.specs.Parts.{read_order, parts_of}
use Rattle.psz_read.proofs.Rests.{parts_more, parts_end}
use Rattle.psz_read.proofs.RunZones.{order_length}
use Rattle.psz_read.proofs.parts.parts_in.Goals as goal

pub loop-index-preserved : goal.loop-index-preserved
loop-index-preserved c =
    ap (λ (ps : List Part). ps
    ++ parts_of c.args.machine (drop (c.loop-index.index + 1) (read_order (zones_of c.args.sizes.now)))
    c.args.image.now)
    c.in_ok-add.ensures
    ∙ parts_more c.args.machine c.args.image.now (read_order (zones_of c.args.sizes.now)) c.loop-index.index
    c.loop-index.parts.items c.next_part-part.result
    (parts_of c.args.machine (read_order (zones_of c.args.sizes.now)) c.args.image.now) c.next_part-part.ensures
    c.loop-index.invariant

pub returns : goal.returns
returns c = parts_end c.args.machine c.args.image.now (read_order (zones_of c.args.sizes.now)) c.loop-index.index
    c.loop-index.parts.items (parts_of c.args.machine (read_order (zones_of c.args.sizes.now)) c.args.image.now)
    (omega (arith, order_length c.args.sizes.now, c.zone_count-count.ensures.all)) c.loop-index.invariant
