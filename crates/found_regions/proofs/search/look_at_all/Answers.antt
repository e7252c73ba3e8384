-- One page after another, each by what it adds. For `look_at_all`.
use Rattle.std.proofs.Common.{◌≡◌, ℕ, List, Option, IfSome, subst, refl, ◌∙◌, get_or}
use Rattle.found_regions.specs.Search.{IsStep}
use Rattle.found_regions.proofs.Pages.{one_looked, all_looked}
use Rattle.found_regions.proofs.search.look_at_all.Goals as goal

pub loop-page-preserved : goal.loop-page-preserved
loop-page-preserved g c = (
  one_looked c.args.known.now (g.M.Load.holds c.args.memory.now) c.args.pages.now c.loop-page.page-index
      (get_or c.args.pages.now c.loop-page.page-index 0) c.loop-page.search c.look_at.new.search
      c.loop-page-test.true refl
      (subst (λ (o : Option (List ℕ)). IfSome o (λ bs. IsStep c.args.known.now bs
      (get_or c.args.pages.now c.loop-page.page-index 0) c.loop-page.search c.look_at.new.search))
      c.loop-page.invariant.1 c.in_ok-look_at.ensures.ok)
      c.loop-page.invariant.0,
  c.in_ok-look_at.ensures.same ∙ c.loop-page.invariant.1,
  c.in_ok-look_at.ensures.no_fault ∙ c.loop-page.invariant.2,
)

pub returns-clause-ok : goal.returns-clause-ok
returns-clause-ok g c =
    all_looked c.args.known.now (g.M.Load.holds c.args.memory.now) c.args.pages.now c.loop-page.page-index
    c.loop-page.search c.into_findings.result.items c.loop-page-test.false c.loop-page.invariant.0
    c.into_findings.ensures
