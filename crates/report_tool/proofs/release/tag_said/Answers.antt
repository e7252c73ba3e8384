-- A tag in front is the answer; else the bytes behind this one decide. For the loop of `tag_said`.
use Rattle.std.proofs.Common.{◌+◌, ◌==◌, ◌∙◌, sym, ap, drop, get_or}
use Rattle.std.specs.Option.{option_or}
use Rattle.report_tool.specs.Releases.{tag_from}
use Rattle.report_tool.proofs.VersionWords.{byte_more, no_byte}
use Rattle.report_tool.proofs.release.tag_said.Goals as goal

pub returns-in-Some : goal.returns-in-Some
returns-in-Some c =
    sym (c.loop-i.invariant ∙ byte_more c.args.bytes.now c.loop-i.i c.loop-i.begins c.loop-i-test.true
    ∙ ap (λ o. option_or o (tag_from (get_or c.args.bytes.now c.loop-i.i 0 == 32)
    (drop (c.loop-i.i + 1) c.args.bytes.now))) (sym (rw c.rest.ensures at c.in-Some.ensures)))

pub loop-i-preserved : goal.loop-i-preserved
loop-i-preserved c =
    c.loop-i.invariant ∙ byte_more c.args.bytes.now c.loop-i.i c.loop-i.begins c.loop-i-test.true
    ∙ ap (λ o. option_or o (tag_from (get_or c.args.bytes.now c.loop-i.i 0 == 32)
    (drop (c.loop-i.i + 1) c.args.bytes.now))) (sym (rw c.rest.ensures at c.in_default.ensures))

pub returns : goal.returns
returns c =
    sym (c.loop-i.invariant ∙ no_byte c.args.bytes.now c.loop-i.i c.loop-i.begins c.loop-i-test.false)
