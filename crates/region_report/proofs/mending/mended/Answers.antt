-- One line more, and all of the text in the end. For `mended`.
use Rattle.death_spec.specs.Lines.{lines_from}
use Rattle.report_spec.specs.Mending.{mended_text, doubts_left}
use Rattle.region_report.specs.Mendings.{as_seen}
use Rattle.region_report.proofs.MendedLines.{text-more, text-end, doubts-more, doubts-end}
use Rattle.region_report.proofs.mending.mended.Goals as goal

pub lines-preserved : goal.lines-preserved
lines-preserved c =
    let a = as_seen c.args.a.now in
    let b = as_seen c.args.b.now in
    let rest = lines_from a.text c.lines.at in
    let lines = lines_from a.text c.in-Some.line.next in
    record {
      text = text-more a b c.lines.out.text.items c.add.new.self.text.items (mended_text a b) c.in-Some.line rest lines
          c.in-Some.ensures.line c.in_ok-add.ensures.text c.lines.invariant.text;
      doubts = doubts-more a b c.lines.out.doubts.items c.add.new.self.doubts.items (doubts_left a b) c.in-Some.line rest
          lines c.in-Some.ensures.line c.in_ok-add.ensures.doubts c.lines.invariant.doubts;
    }

pub returns-clause-text : goal.returns-clause-text
returns-clause-text c =
    let a = as_seen c.args.a.now in
    let b = as_seen c.args.b.now in
    text-end a b c.lines.out.text.items (mended_text a b) (lines_from a.text c.lines.at) c.in_default.ensures.none
    c.lines.invariant.text

pub returns-clause-doubts : goal.returns-clause-doubts
returns-clause-doubts c =
    let a = as_seen c.args.a.now in
    let b = as_seen c.args.b.now in
    doubts-end a b c.lines.out.doubts.items (doubts_left a b) (lines_from a.text c.lines.at) c.in_default.ensures.none
    c.lines.invariant.doubts
