-- Each block adds its mark, if it has one. For `marks_in`.
use Rattle.std.proofs.Common.{ℕ, ◌+◌, ◌-◌, ◌*◌, ◌/◌, ◌++◌, ap, ◌∙◌, arith, length, List}
use Rattle.zone_spec.specs.declared.params.ByteOrder.{ByteOrder}
use Rattle.psz_spec.specs.declared.Mark.{Mark}
use Rattle.psz_spec.specs.Marks.{marks_from, marks_in}
use Rattle.psz_read.proofs.Rests.{marks_more, marks_end}
use Rattle.psz_read.proofs.marks.marks_in.Goals as goal

pub loop-block-preserved : goal.loop-block-preserved
loop-block-preserved c =
    let order : ByteOrder = c.args.order in
    let image : List ℕ = c.args.image.now in
    let n : ℕ = length image / 512 in
    let i : ℕ = c.loop-block.block in
    ap (λ (ms : List Mark). ms ++ marks_from order (n - (i + 1)) ((i + 1) * 512) image) c.in_ok-add.ensures
    ∙ marks_more order n i image c.loop-block.marks.items c.block_mark-mark.result (marks_in order image) (omega arith)
    c.block_mark-mark.ensures c.loop-block.invariant

pub returns : goal.returns
returns c =
    let order : ByteOrder = c.args.order in
    let image : List ℕ = c.args.image.now in
    marks_end order (length image / 512) c.loop-block.block image c.loop-block.marks.items (marks_in order image)
    (omega arith) c.loop-block.invariant
