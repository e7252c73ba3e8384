-- One record more adds its parts, the last group ends, and all records hold bytes. For `add_each`.
use Rattle.std.proofs.Common.{◌++◌, ◌∙◌, Bool, None, ap, refl, arith}
use Rattle.prz_read.specs.Saving.{saved}
use Rattle.report_html.specs.Pieces.{parts}
use Rattle.report_html.specs.Order.{shown_in}
use Rattle.report_html.specs.Pages.{records_after}
use Rattle.report_html.proofs.ForeignParts.{held_next, held_all}
use Rattle.report_html.proofs.RecordGroups.{listed_on, listed_all}
use Rattle.report_html.proofs.NewestFirst.{shown-at, shown-len}
use Rattle.report_html.proofs.page.add_each.Goals as goal

pub loop-place-init : goal.loop-place-init
loop-place-init c = (refl, λ k r below at. absurd (omega (arith, below)))

pub loop-place-preserved : goal.loop-place-preserved
loop-place-preserved c =
    let records = shown_in c.args.records.now in
    let held = c.index-records-place.result in
    let is = shown-at c.args.records.now c.loop-place.place held c.loop-place-test.true c.index-records-place.is in
    let len = shown-len c.args.records.now in
    let past = c.loop-place-test.true in (
      listed_on (saved c.args.logs.now) c.are_grouped-grouped.result c.args.number c.loop-place.before
          c.group_in-group.result c.args.teller c.is_some.result
          c.is_unfolded-is_open.result c.is_teller-tells.result records c.loop-place.place held.now
          (parts c.args.pieces.now.items) (parts c.loop-place.pieces.items) (parts c.add_edge.new.pieces.items)
          (parts c.add_record.new.pieces.items) (omega (arith, len, past)) is c.loop-place.invariant.0
          c.group_in-group.ensures c.is_some.ensures c.is_unfolded-is_open.ensures c.is_teller-tells.ensures
          c.in_ok-add_edge.ensures c.in_ok-add_record.ensures.parts,
      held_next records c.loop-place.place held.now is c.loop-place.invariant.1 c.in_ok-add_record.ensures.bytes,
    )

pub returns-clause-bytes : goal.returns-clause-bytes
returns-clause-bytes c =
    let len = shown-len c.args.records.now in
    let past = c.loop-place-test.false in
    held_all (shown_in c.args.records.now) c.loop-place.place (omega (arith, len, past)) c.loop-place.invariant.1

pub returns-clause-parts : goal.returns-clause-parts
returns-clause-parts c =
    let records = shown_in c.args.records.now in
    let len = shown-len c.args.records.now in
    let past = c.loop-place-test.false in
    listed_all (saved c.args.logs.now) c.are_grouped-grouped.result c.args.number c.loop-place.before c.args.teller
    c.is_some-2.result records c.loop-place.place (parts c.args.pieces.now.items) (parts c.loop-place.pieces.items)
    (parts c.add_edge-2.new.pieces.items) (omega (arith, len, past)) c.loop-place.invariant.0 c.is_some-2.ensures
    c.in_ok-add_edge-2.ensures
    ∙ ap (λ (t : Bool). parts c.args.pieces.now.items
    ++ records_after (saved c.args.logs.now) t c.args.number c.args.teller 0 None records) c.are_grouped-grouped.ensures
