-- A search for some layout that ends with none has tried all, so there is none. For `find_some`.
use Rattle.std.proofs.Common.{◌<◌, ◌^◌, arith}
use Rattle.layout_spec.specs.Marks.{marks}
use Rattle.layout_search.proofs.SearchAnswers.{all_first, nothing, some_by}
use Rattle.layout_search.proofs.searching.find_some.Goals as goal

pub returns-clause-some : goal.returns-clause-some
returns-clause-some c =
    let known = c.args.known.now in
    let image = c.args.image.now in
    let state = c.try_limit.new.state in
    let few : marks image < 2 ^ 62 = omega (arith, c.requires.few, c.requires.marks) in
    some_by known image state.best c.in_ok-try_limit.ensures.sound (λ none. nothing known image state.best none
    (all_first known image state c.in_ok-try_limit.field-0 few c.in_ok-try_limit.ensures.first
    c.in_ok-try_limit.ensures.more (omega (
      arith,
      c.begin-state.ensures.work,
      c.in_ok-try_limit.ensures.advances.first c.begin-state.ensures.effort none,
    ))))
