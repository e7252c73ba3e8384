-- The sweep settles the usual layouts that have no more faults than the best; those with more are behind it. For
-- `try_usual`.
use Rattle.std.proofs.Common.{◌≡◌, ◌<◌, ◌≤◌, ◌+◌, ◌^◌, true, false, Option, None, refl, sym, subst, ap, arith}
use Rattle.std.proofs.Common.{true≢false}
use Rattle.layout_spec.specs.declared.Known.{Known}
use Rattle.layout_spec.specs.declared.Tally.{Tally}
use Rattle.layout_spec.specs.Family.{is_of_family}
use Rattle.layout_spec.specs.Laid.{zones_of}
use Rattle.layout_spec.specs.Marks.{marks}
use Rattle.layout_spec.specs.Order.{faults}
use Rattle.layout_search.specs.Tried.{IsKept, is_ahead}
use Rattle.layout_search.specs.declared.progress.Best.{Best}
use Rattle.layout_search.proofs.SearchAnswers.{few_faults, tally_faults, usual_first}
use Rattle.layout_search.proofs.Usual.{usual_kept}
use Rattle.layout_search.proofs.searching.try_usual.Goals as goal

pub sweep-requires-clause-aim : goal.sweep-requires-clause-aim
sweep-requires-clause-aim c =
    let image = c.args.image.now in
    let b = c.args.best in
    let few : marks image < 2 ^ 62 = omega (arith, c.requires.few, c.requires.marks) in
    let most : faults image (zones_of b.candidate) ≤ 2 ^ 62 + 2 ^ 32 =
    few_faults c.args.known.now image b.candidate few c.requires.kept.of_family in record {
      marks_are = c.requires.marks;
      few = omega (arith, c.requires.few);
      limit = omega (arith, most, ap (λ (t : Tally). t.faults) c.requires.kept.tally_is, tally_faults image b.candidate);
    }

pub returns-in-Some-clause-kept : goal.returns-in-Some-clause-kept
returns-in-Some-clause-kept c =
    let known = c.args.known.now in
    let image = c.args.image.now in
    let found = subst (λ (u : Known). IsKept u image None c.in-Some.other) c.usual-usual.ensures
    (rw c.in-Some.is at c.in_ok-sweep.ensures.sound) in
    c.first_of.ensures.kept known image
    (usual_kept known image c.args.parity c.in-Some.other c.requires.parity found) c.requires.kept

pub returns-in-Some-clause-usual : goal.returns-in-Some-clause-usual
returns-in-Some-clause-usual c = λ d family.
    let image = c.args.image.now in
    let s = c.sweep.new.state in
    let work : 0 < s.work = omega (
      arith,
      c.begin-state.ensures.work,
      c.in_ok-sweep.ensures.advances.all c.begin-state.ensures.effort,
    ) in
    usual_first c.args.known.now c.usual-usual.result image c.args.best c.first_of.result _ s c.requires.kept refl refl
    (c.in_ok-sweep.ensures.settled work) (λ k h. c.first_of.ensures.other k h)
    (λ k h. c.first_of.ensures.one k (subst (λ (o : Option Best). is_ahead k o ≡ false) c.in-Some.is h)) d
    (subst (λ (u : Known). is_of_family u image d ≡ true) (sym c.usual-usual.ensures) family)

pub returns-clause-usual : goal.returns-clause-usual
returns-clause-usual c = λ d family.
    let image = c.args.image.now in
    let s = c.sweep.new.state in
    let work : 0 < s.work = omega (
      arith,
      c.begin-state.ensures.work,
      c.in_ok-sweep.ensures.advances.all c.begin-state.ensures.effort,
    ) in
    usual_first c.args.known.now c.usual-usual.result image c.args.best c.args.best _ s c.requires.kept refl refl
    (c.in_ok-sweep.ensures.settled work) (λ k h. h)
    (λ k h. absurd (true≢false (subst (λ (o : Option Best). is_ahead k o ≡ false) c.in-None.is h))) d
    (subst (λ (u : Known). is_of_family u image d ≡ true) (sym c.usual-usual.ensures) family)
