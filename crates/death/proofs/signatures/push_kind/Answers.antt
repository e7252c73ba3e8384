-- A row that fits decides, any other leaves it to the rest. For `push_kind`.
use Rattle.std.proofs.Common.{refl, sym, ◌∙◌, arith}
use Rattle.death.proofs.Names.{kind_yes, kind_no, kind_none, kind_added}
use Rattle.death.proofs.signatures.push_kind.Goals as goal

pub returns-then-starts_with : goal.returns-then-starts_with
returns-then-starts_with c =
    kind_added _ _ _ _ _ _
    (c.loop-row.invariant.0
    ∙ kind_yes c.args.rows.now c.args.words.now c.loop-row.row-index _ c.loop-row-test.true
    (sym c.starts_with.ensures ∙ c.if-starts_with.true)) c.loop-row.invariant.1 refl c.in_ok-push_row.ensures

pub loop-row-preserved : goal.loop-row-preserved
loop-row-preserved c = (
  c.loop-row.invariant.0
      ∙ kind_no c.args.rows.now c.args.words.now c.loop-row.row-index _ c.loop-row-test.true
      (sym c.starts_with.ensures ∙ c.if-starts_with.false),
  c.loop-row.invariant.1,
)

pub returns : goal.returns
returns c =
    kind_added _ _ _ _ _ _
    (c.loop-row.invariant.0
    ∙ kind_none c.args.rows.now c.args.words.now c.loop-row.row-index (omega (arith, c.loop-row-test.false)))
    c.loop-row.invariant.1 refl c.in_ok-push_numberless.ensures
