-- How many they are, what they tell, and the newest of them
use Rattle.std.proofs.Common.{append_assoc}
use Rattle.std.proofs.lemmas.List.{length-map}
use Rattle.report_html.specs.Causes.{crash_in}
use Rattle.report_html.proofs.causes.add_row.Goals as goal

pub returns : goal.returns
returns c =
    simp (
      c.in_ok-add-2.ensures,
      c.in_ok-add_newest.ensures,
      c.in_ok-add.ensures,
      c.newest_of.ensures,
      length-map c.args.crashes.now crash_in,
      append_assoc,
    )
