-- An entry to blame is found; any other leaves it to the rest. For `blamed_below`.
use Rattle.std.proofs.Common.{ap, sym, ◌∙◌}
use Rattle.death_spec.specs.Traces.{entries, to_blame}
use Rattle.death.proofs.TraceEntries.{blame_yes, blame_no, blame_none}
use Rattle.death.proofs.traces.blamed_below.Goals as goal

pub returns-then-not-is_innocent : goal.returns-then-not-is_innocent
returns-then-not-is_innocent c =
    sym (c.entries.invariant ∙ ap (to_blame c.args.text.now c.args.hangs) c.in-Some.ensures.rest
    ∙ blame_yes c.args.text.now c.args.hangs c.in-Some.line (entries c.args.text.now c.in-Some.line.next)
    (sym c.is_innocent.ensures ∙ c.if-not-is_innocent.true))

pub entries-preserved : goal.entries-preserved
entries-preserved c =
    c.entries.invariant ∙ ap (to_blame c.args.text.now c.args.hangs) c.in-Some.ensures.rest
    ∙ blame_no c.args.text.now c.args.hangs c.in-Some.line (entries c.args.text.now c.in-Some.line.next)
    (sym c.is_innocent.ensures ∙ c.if-not-is_innocent.false)

pub returns : goal.returns
returns c =
    sym (c.entries.invariant ∙ ap (to_blame c.args.text.now c.args.hangs) c.in_default.ensures.none
    ∙ blame_none c.args.text.now c.args.hangs)
