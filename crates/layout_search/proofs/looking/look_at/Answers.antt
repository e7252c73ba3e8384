-- What is seen of a zone whose header is unreadable, foreign, empty, invalid, or that of a ring.
-- For `look_at`.
use Rattle.std.proofs.Common.{◌∙◌, sym, subst}
use Rattle.layout_search.specs.Looks.{IsLook}
use Rattle.layout_search.specs.declared.looking.Look.{Look}
use Rattle.layout_search.proofs.Headers.{misfit, unreadable, foreign, invalid, fresh, ring}
use Rattle.layout_search.proofs.looking.look_at.Goals as goal

pub returns-in_default : goal.returns-in_default
returns-in_default c = subst (λ (l : Look). IsLook c.args.image.now c.args.zone.now l) (sym c.misfit.ensures)
    (misfit c.args.image.now c.args.zone.now c.is_mark-marked.result c.is_mark-marked.ensures
    (unreadable c.args.image.now c.args.zone.now c.in_default.ensures))

pub returns-then-not-is_own : goal.returns-then-not-is_own
returns-then-not-is_own c = subst (λ (l : Look). IsLook c.args.image.now c.args.zone.now l)
    (sym c.misfit-then-not-is_own.ensures)
    (misfit c.args.image.now c.args.zone.now c.is_mark-marked.result c.is_mark-marked.ensures
    (foreign c.args.image.now c.args.zone.now c.in-Some.header.words c.in-Some.ensures.words
    (sym c.is_own.ensures ∙ c.if-not-is_own.true)))

pub returns-then-is_empty : goal.returns-then-is_empty
returns-then-is_empty c = subst (λ (l : Look). IsLook c.args.image.now c.args.zone.now l) (sym c.fresh.ensures)
    (fresh c.args.image.now c.args.zone.now c.in-Some.header c.is_mark-marked.result c.in-Some.ensures
    c.is_mark-marked.ensures (sym c.is_own.ensures ∙ c.if-not-is_own.false)
    (sym c.is_empty.ensures ∙ c.if-is_empty.true))

pub returns-then-is_invalid : goal.returns-then-is_invalid
returns-then-is_invalid c = subst (λ (l : Look). IsLook c.args.image.now c.args.zone.now l)
    (sym c.misfit-then-is_invalid.ensures)
    (misfit c.args.image.now c.args.zone.now c.is_mark-marked.result c.is_mark-marked.ensures
    (invalid c.args.image.now c.args.zone.now c.in-Some.header.words c.in-Some.ensures.words
    (sym c.is_own.ensures ∙ c.if-not-is_own.false) (sym c.is_empty.ensures ∙ c.if-is_empty.false)
    (sym c.is_invalid.ensures ∙ c.if-is_invalid.true)))

pub returns : goal.returns
returns c = ring c.args.image.now c.args.zone.now c.in-Some.header c.is_mark-marked.result c.is_odd.result
    c.in-Some.ensures c.is_mark-marked.ensures (sym c.is_own.ensures ∙ c.if-not-is_own.false)
    (sym c.is_empty.ensures ∙ c.if-is_empty.false) (sym c.is_invalid.ensures ∙ c.if-is_invalid.false)
    c.is_odd.ensures
