-- A zone is blank exactly when no flight stands there and nothing was told. For `is_blank`.
use Rattle.std.proofs.Common.{ap, not, sym, subst, ◌∙◌}
use Rattle.ramoops.specs.Refilling.{SaysBlank}
use Rattle.ramoops.proofs.LogAppend.{says_blank, blank_tells, flying_tells}
use Rattle.ramoops.proofs.live.Live.is_blank.Goals as goal

pub returns-then-is_none : goal.returns-then-is_none
returns-then-is_none c = says_blank _ c.args.self.now c.args.i c.index-held.result.now _ c.requires c.self.view_is
    c.self.invariant.0 c.index-held.ensures
    (blank_tells c.index-held.result.now.flight _ _ (c.is_none.ensures ∙ ap not c.if-is_none.true) c.len.ensures)

pub returns-else-is_none : goal.returns-else-is_none
returns-else-is_none c = subst (SaysBlank c.args.i c.args.self.now) (sym c.if-is_none.false)
    (says_blank _ c.args.self.now c.args.i c.index-held.result.now _ c.requires c.self.view_is
    c.self.invariant.0 c.index-held.ensures
    (flying_tells c.index-held.result.now.flight _ (c.is_none.ensures ∙ ap not c.if-is_none.false)))
