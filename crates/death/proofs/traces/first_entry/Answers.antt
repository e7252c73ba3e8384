-- A line with an entry is the first, one outside the trace ends it, and any other is passed. For
-- `first_entry`.
use Rattle.std.proofs.Common.{◌≡◌, ◌∷◌, [], ap, sym, ◌∙◌, arith}
use Rattle.death_spec.specs.Traces.{is_entry, is_of_trace, entries}
use Rattle.death.proofs.TraceEntries.{entry_yes, entry_no, entry_end, entry_past}
use Rattle.death.proofs.traces.first_entry.Goals as goal

-- an entry at a line
found : (c : goal.Then-is_entry) → entries c.args.text.now c.args.from
    ≡ c.in-Some.line ∷ entries c.args.text.now c.in-Some.line.next
found c = c.lines.invariant.1
    ∙ entry_yes c.args.text.now c.lines.at c.in-Some.line c.in-Some.ensures.line
    (ap is_entry (sym c.said-words.ensures.said) ∙ sym c.is_entry.ensures ∙ c.if-is_entry.true)

pub returns-then-is_entry-clause-rest : goal.returns-then-is_entry-clause-rest
returns-then-is_entry-clause-rest c = found c

-- the trace ends at a line
ended : (c : goal.Then-not-is_of_trace) → entries c.args.text.now c.args.from ≡ []
ended c = c.lines.invariant.1
    ∙ entry_end c.args.text.now c.lines.at c.in-Some.line c.in-Some.ensures.line
    (ap is_of_trace (sym c.said-words.ensures.said) ∙ sym c.is_of_trace.ensures ∙ c.if-not-is_of_trace.true)

pub returns-then-not-is_of_trace-clause-none : goal.returns-then-not-is_of_trace-clause-none
returns-then-not-is_of_trace-clause-none c = ended c

pub lines-preserved : goal.lines-preserved
lines-preserved c = (
  omega (arith, c.lines.invariant.0, c.in-Some.ensures.next.0),
  c.lines.invariant.1
      ∙ entry_no c.args.text.now c.lines.at c.in-Some.line c.in-Some.ensures.line
      (ap is_entry (sym c.said-words.ensures.said) ∙ sym c.is_entry.ensures ∙ c.if-is_entry.false)
      (ap is_of_trace (sym c.said-words.ensures.said) ∙ sym c.is_of_trace.ensures ∙ c.if-not-is_of_trace.false),
)

-- the text ends
past : (c : goal.In_default) → entries c.args.text.now c.args.from ≡ []
past c = c.lines.invariant.1 ∙ entry_past c.args.text.now c.lines.at c.in_default.ensures.none

pub returns-clause-none : goal.returns-clause-none
returns-clause-none c = past c
