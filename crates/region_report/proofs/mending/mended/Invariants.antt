-- The lines so far, and those that are left, are all lines. For the loop of `mended`.
use Rattle.std.proofs.Common.{◌≡◌, ◌-◌, ◌+◌, ◌++◌, length}
use Rattle.death_spec.specs.Lines.{lines_from}
use Rattle.report_spec.specs.Mending.{mended_lines, mended_text, lines_doubts, doubts_left}
use Rattle.region_report.specs.Mendings.{as_seen}
use Rattle.region_report.proofs.mending.mended.Given as goal

abbrev pub invariant-lines : goal.invariant-lines
invariant-lines l = record {
  text : l.out.text.items ++ mended_lines (as_seen l.a) (as_seen l.b) (lines_from l.a.text.now l.at)
      ≡ mended_text (as_seen l.a) (as_seen l.b);
  doubts : l.out.doubts.items ++ lines_doubts (as_seen l.a) (as_seen l.b) (lines_from l.a.text.now l.at)
      ≡ doubts_left (as_seen l.a) (as_seen l.b);
}

abbrev pub decreases-lines : goal.decreases-lines
decreases-lines l = length l.a.text.now + 1 - l.at
