-- If the best has no more faults than the limit, no layout of the family is before it. Else all have more. For
-- `try_limit`.
use Rattle.std.proofs.Common.{◌≡◌, Option, None, Some, refl}
use Rattle.layout_spec.specs.declared.Candidate.{Candidate}
use Rattle.layout_search.proofs.SearchAnswers.{done, none_left}
use Rattle.layout_search.proofs.searching.try_limit.Goals as goal

pub returns-clause-first : goal.returns-clause-first
returns-clause-first c = λ e work d family. done c.args.known.now c.args.image.now _ c.sweep.new.state
    c.in_ok-sweep.ensures.sound refl (c.is_done.ensures.done e) (c.in_ok-sweep.ensures.settled work) d family

pub returns-clause-more : goal.returns-clause-more
returns-clause-more c = λ e work. none_left c.args.known.now c.args.image.now _ c.sweep.new.state refl
    (c.is_done.ensures.more e) c.in_ok-sweep.ensures.sound (c.in_ok-sweep.ensures.settled work)

pub returns-clause-so_far : goal.returns-clause-so_far
returns-clause-so_far c = λ d family walked few. (c.in_ok-sweep.ensures.part d walked).settled family few
    (λ e. let n : ◌≡◌ {A = Option Candidate} None (Some d) = e in cc)
