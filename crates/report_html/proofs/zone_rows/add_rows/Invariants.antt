-- With the rows that are left the parts are those of all
use Rattle.std.proofs.Common.{◌≡◌, ◌++◌, drop, None}
use Rattle.std.specs.Option.{option_map}
use Rattle.report_html.specs.Pieces.{parts}
use Rattle.report_html.specs.Pictures.{drawn_of}
use Rattle.report_html.specs.ZoneRows.{rows_after, row_in}
use Rattle.report_html.proofs.zone_rows.add_rows.Given as goal

abbrev pub invariant-loop-i : goal.invariant-loop-i
invariant-loop-i l =
    parts l.pieces.items ++ rows_after (option_map row_in l.held) (drop l.i (drawn_of l.zones l.report))
    ≡ parts l.initial.pieces.items ++ rows_after None (drawn_of l.zones l.report)
