-- With the records that are left the parts are those of all, and the records so far hold bytes. For the loop of
-- `add_each`.
use Rattle.std.proofs.Common.{◌≡◌, ◌++◌, ◌<◌, ℕ, drop, slice_get, Some, None}
use Rattle.zone_spec.specs.Parts.{AreBytes}
use Rattle.report_spec.specs.Packed.{RecordShown, readable}
use Rattle.prz_read.specs.Saving.{saved}
use Rattle.report_html.specs.Pieces.{parts}
use Rattle.report_html.specs.Order.{shown_in}
use Rattle.report_html.specs.Pages.{records_after}
use Rattle.report_html.proofs.page.add_each.Given as goal

abbrev pub invariant-loop-place : goal.invariant-loop-place
invariant-loop-place l =
    (parts l.pieces.items
    ++ records_after (saved l.logs) l.grouped l.number l.teller l.place l.before (drop l.place (shown_in l.records))
    ≡ parts l.initial.pieces.items ++ records_after (saved l.logs) l.grouped l.number l.teller 0 None (shown_in l.records))
    × ((k : ℕ) (r : RecordShown) → k < l.place → slice_get (shown_in l.records) k ≡ Some r → AreBytes (readable r))
