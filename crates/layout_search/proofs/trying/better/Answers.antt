-- A key that is not before the best so far is not before one that replaces it, and no key is
-- before itself. For `better`.
use Rattle.std.proofs.Common.{◌∙◌, sym}
use Rattle.layout_search.proofs.BestSoFar.{replaced}
use Rattle.layout_search.proofs.Keys.{not_before_self}
use Rattle.layout_search.proofs.trying.better.Goals as goal

pub returns-then-is_ahead-clause-kept : goal.returns-then-is_ahead-clause-kept
returns-then-is_ahead-clause-kept c = λ k n. replaced k c.args.this.key c.args.best
    (sym c.is_ahead.ensures ∙ c.if-is_ahead.true) n

pub returns-then-is_ahead-clause-this : goal.returns-then-is_ahead-clause-this
returns-then-is_ahead-clause-this c = not_before_self c.args.this.key
