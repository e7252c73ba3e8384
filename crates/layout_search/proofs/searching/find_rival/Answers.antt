-- The sweep settles each layout of the family with as few faults, other than the best. One with more that it kept goes.
-- It gives up only where it may. For `find_rival`.
use Rattle.std.proofs.Common.{◌≡◌, ◌∙◌, ◌<◌, ◌≤◌, ◌+◌, ◌^◌, false, Option, Some, IfSome, sym, subst, ap, arith}
use Rattle.layout_spec.specs.declared.Tally.{Tally}
use Rattle.layout_spec.specs.Laid.{zones_of}
use Rattle.layout_spec.specs.Marks.{marks}
use Rattle.layout_spec.specs.Order.{faults, key}
use Rattle.layout_search.specs.Tried.{IsSound, is_ahead}
use Rattle.layout_search.specs.declared.progress.Best.{Best}
use Rattle.layout_search.proofs.SearchAnswers.{few_faults, few_first, few_left, few_sound, gives_up, tally_faults}
use Rattle.layout_search.proofs.searching.find_rival.Goals as goal

pub sweep-requires-clause-aim : goal.sweep-requires-clause-aim
sweep-requires-clause-aim c =
    let image = c.args.image.now in
    let b = c.args.best.now in
    let few : marks image < 2 ^ 62 = omega (arith, c.requires.few, c.requires.marks) in
    let most : faults image (zones_of b.candidate) ≤ 2 ^ 62 + 2 ^ 32 =
    few_faults c.args.known.now image b.candidate few c.requires.sound.of_family in record {
      marks_are = c.requires.marks;
      few = omega (arith, c.requires.few);
      limit = omega (arith, most, ap (λ (t : Tally). t.faults) c.requires.sound.tally_is, tally_faults image b.candidate);
    }

pub returns-clause-sound : goal.returns-clause-sound
returns-clause-sound c =
    let besides = Some c.args.best.now.candidate in
    subst (IsSound c.args.known.now c.args.image.now besides) (sym c.with_few-state.ensures)
    (few_sound c.args.known.now c.args.image.now besides c.args.best.now.tally.faults c.sweep.new.state.best
    c.in_ok-sweep.ensures.sound)

pub returns-clause-few : goal.returns-clause-few
returns-clause-few c =
    let most = c.args.best.now.tally.faults in
    subst (λ (o : Option Best). IfSome o (λ (b : Best). b.tally.faults ≤ most)) (sym c.with_few-state.ensures)
    (few_left most c.sweep.new.state.best)

pub returns-clause-settled : goal.returns-clause-settled
returns-clause-settled c = λ work d family differs few.
    let image = c.args.image.now in
    subst (λ (o : Option Best). is_ahead (key image d) o ≡ false) (sym c.with_few-state.ensures)
    (few_first c.args.known.now image (Some c.args.best.now.candidate) d c.args.best.now.tally.faults
    c.sweep.new.state.best c.in_ok-sweep.ensures.sound few
    ((c.in_ok-sweep.ensures.settled work d).settled family few (λ e. differs cc)))

pub returns-clause-given_up : goal.returns-clause-given_up
returns-clause-given_up c = λ ended. gives_up c.args.known.now c.args.image.now c.args.best.now
    c.begin-state.result.effort c.begin-state.result.work c.sweep.new.state.work c.requires.sound c.requires.first
    (λ e. c.begin-state.ensures.effort ∙ c.effort_beside.ensures.narrow e)
    (λ e. c.begin-state.ensures.effort ∙ c.effort_beside.ensures.few e) c.in_ok-sweep.ensures.advances.all
    (omega (arith, c.requires.work, c.begin-state.ensures.work)) ended
