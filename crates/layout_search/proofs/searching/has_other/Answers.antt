-- A sweep for some layout beside the best finds one, or there is none. For `has_other`.
use Rattle.std.proofs.Common.{◌∙◌, ◌<◌, ◌^◌, sym, refl, arith}
use Rattle.layout_spec.specs.Marks.{marks}
use Rattle.layout_search.proofs.SearchAnswers.{some_other, no_other}
use Rattle.layout_search.proofs.searching.has_other.Goals as goal

pub returns-clause-other : goal.returns-clause-other
returns-clause-other c = λ e. some_other c.args.known.now c.args.image.now c.args.best.now.candidate
    c.sweep.new.state.best c.in_ok-sweep.ensures.sound (sym c.is_some.ensures ∙ e)

pub returns-clause-only : goal.returns-clause-only
returns-clause-only c = λ e d family differs.
    let few : marks c.args.image.now < 2 ^ 62 = omega (arith, c.requires.few, c.requires.marks) in
    no_other c.args.known.now c.args.image.now c.args.best.now.candidate _ c.sweep.new.state refl refl few
    (λ none. omega (
      arith,
      c.begin-state.ensures.work,
      c.in_ok-sweep.ensures.advances.first c.begin-state.ensures.effort none,
    )) c.in_ok-sweep.ensures.settled
    (sym c.is_some.ensures ∙ e) d family differs
