-- Each byte ends a row, begins one, or makes it longer
use Rattle.std.proofs.Common.{◌≡◌, ◌++◌, [], arith}
use Rattle.report_text.specs.Pieces.{parts}
use Rattle.report_text.specs.Tails.{rows_from, rows_parts}
use Rattle.report_text.proofs.RowCuts.{newline-step, full-step, byte-step, last-step, end-step}
use Rattle.report_text.proofs.rows.add_rows.Goals as goal
use Rattle.report_text.proofs.rows.add_rows.Goals.{then-b-eq10+in_ok-add_row}
use Rattle.report_text.proofs.rows.add_rows.Goals.{else-b-eq10+then-taken-next-gt-COLUMNS+in_ok-add_row-2}
use Rattle.report_text.proofs.rows.add_rows.Goals.{else-b-eq10+else-taken-next-gt-COLUMNS}

pub loop-i-preserved : goal.loop-i-preserved
loop-i-preserved c =
    let bytes = c.args.bytes.now in
    let all = parts c.args.pieces.now.items ++ rows_parts c.args.lead.now (rows_from [] 0 bytes) in
    elim c.if-b-eq10.branch [
      | then-b-eq10+in_ok-add_row w ↦
          let new : parts c.if-b-eq10.pieces.items ≡ parts w.add_row.new.pieces.items = cc in
          record {
            left = newline-step c.args.lead.now (parts c.loop-i.pieces.items) (parts c.if-b-eq10.pieces.items) bytes c.loop-i.from
                c.loop-i.i c.loop-i.taken 0 c.if-b-eq10.from c.if-b-eq10.taken all c.loop-i-test.true
                c.loop-i.invariant.left w.if-b-eq10.true (cc (new, w.in_ok-add_row.ensures)) w.from-is w.taken-is;
            from = omega arith;
            taken = omega arith;
          }
      | else-b-eq10+then-taken-next-gt-COLUMNS+in_ok-add_row-2 w ↦
          let new : parts c.if-b-eq10.pieces.items
          ≡ parts w.add_row-then-taken-next-gt-COLUMNS.new.pieces.items = cc in
          record {
            left = full-step c.args.lead.now (parts c.loop-i.pieces.items) (parts c.if-b-eq10.pieces.items) bytes c.loop-i.from
                c.loop-i.i c.loop-i.taken 0 c.columns-next.result c.if-b-eq10.from c.if-b-eq10.taken all
                c.loop-i-test.true c.loop-i.invariant.left w.if-b-eq10.false c.columns-next.ensures.columns
                w.if-taken-next-gt-COLUMNS.true (cc (new, w.in_ok-add_row-2.ensures)) w.from-is w.taken-is;
            from = omega arith;
            taken = omega arith;
          }
      | else-b-eq10+else-taken-next-gt-COLUMNS w ↦
          let new : parts c.if-b-eq10.pieces.items ≡ parts c.loop-i.pieces.items = cc in
          record {
            left = byte-step c.args.lead.now (parts c.loop-i.pieces.items) (parts c.if-b-eq10.pieces.items) bytes c.loop-i.from
                c.loop-i.i c.loop-i.taken 0 c.columns-next.result c.if-b-eq10.from c.if-b-eq10.taken all
                c.loop-i-test.true c.loop-i.invariant.from c.loop-i.invariant.left w.if-b-eq10.false
                c.columns-next.ensures.columns w.if-taken-next-gt-COLUMNS.false new w.from-is w.taken-is;
            from = omega arith;
            taken = omega arith;
          }
    ]

pub returns-in_ok-add_row-3 : goal.returns-in_ok-add_row-3
returns-in_ok-add_row-3 c =
    let bytes = c.args.bytes.now in
    last-step c.args.lead.now (parts c.loop-i.pieces.items) (parts c.add_row-then-from-bytes.new.pieces.items) bytes c.loop-i.from
    c.loop-i.i c.loop-i.taken 0 (parts c.args.pieces.now.items ++ rows_parts c.args.lead.now (rows_from [] 0 bytes))
    c.loop-i-test.false c.if-from-bytes.true c.loop-i.invariant.left c.in_ok-add_row-3.ensures

pub returns-else-from-bytes : goal.returns-else-from-bytes
returns-else-from-bytes c =
    let bytes = c.args.bytes.now in
    end-step c.args.lead.now (parts c.loop-i.pieces.items) bytes c.loop-i.from c.loop-i.i c.loop-i.taken
    (parts c.args.pieces.now.items ++ rows_parts c.args.lead.now (rows_from [] 0 bytes)) c.loop-i-test.false c.if-from-bytes.false
    c.loop-i.invariant.left
