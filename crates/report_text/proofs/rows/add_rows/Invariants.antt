-- The row that is begun is a range of the bytes so far, and with the rows that are left all will be added
use Rattle.std.proofs.Common.{◌≤◌, ◌++◌, [], drop}
use Rattle.std.specs.Prelude.{slice_range}
use Rattle.report_text.specs.Pieces.{parts}
use Rattle.report_text.specs.Tails.{rows_from, rows_parts}
use Rattle.report_text.proofs.RowCuts.{IsLeft}
use Rattle.report_text.proofs.rows.add_rows.Given as goal

abbrev pub invariant-loop-i : goal.invariant-loop-i
invariant-loop-i l = record {
  left : IsLeft l.lead (parts l.pieces.items) (slice_range l.bytes l.from l.i) l.taken (drop l.i l.bytes)
      (parts l.initial.pieces.items ++ rows_parts l.lead (rows_from [] 0 l.bytes));
  from : l.from ≤ l.i;
  taken : l.taken ≤ 84;
}
