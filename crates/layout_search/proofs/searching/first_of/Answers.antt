-- What is not before either of the two is not before the first of them. For `first_of`.
use Rattle.std.proofs.Common.{◌∙◌, sym}
use Rattle.layout_search.proofs.Keys.{not_before, not_before_other}
use Rattle.layout_search.proofs.searching.first_of.Goals as goal

pub returns-then-is_before-clause-other : goal.returns-then-is_before-clause-other
returns-then-is_before-clause-other c = λ k h. not_before k c.args.one.key c.args.other.key
    (sym c.is_before.ensures ∙ c.if-is_before.true) h

pub returns-else-is_before-clause-one : goal.returns-else-is_before-clause-one
returns-else-is_before-clause-one c = λ k h. not_before_other k c.args.one.key c.args.other.key
    (sym c.is_before.ensures ∙ c.if-is_before.false) h
