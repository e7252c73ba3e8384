-- At the last limit, which no layout of the family exceeds, all are tried. For `find_faulty`.
use Rattle.std.proofs.Common.{◌<◌, ◌^◌, arith}
use Rattle.layout_spec.specs.Marks.{marks}
use Rattle.layout_search.proofs.SearchAnswers.{all_first}
use Rattle.layout_search.proofs.searching.find_faulty.Goals as goal

pub returns-clause-first : goal.returns-clause-first
returns-clause-first c = λ work d family.
    let few : marks c.args.image.now < 2 ^ 62 = omega (arith, c.requires.few, c.requires.marks) in
    all_first c.args.known.now c.args.image.now c.try_limit-2.new.state c.in_ok-try_limit-2.field-0 few
    c.in_ok-try_limit-2.ensures.first c.in_ok-try_limit-2.ensures.more work d family
