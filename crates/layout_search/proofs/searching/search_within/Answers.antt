-- The layout that was found first and the rival that the second sweep leaves are an answer. So is the best of a search
-- that gave up, after the usual layouts were tried. For `search_within`.
use Rattle.std.proofs.Common.{◌≡◌, ◌<◌, true, Option, refl, sym, subst, arith, true≢false}
use Rattle.std.specs.Prelude.{Bool, not}
use Rattle.layout_spec.specs.declared.Candidate.{Candidate}
use Rattle.layout_spec.specs.Taken.{is_taken}
use Rattle.layout_search.specs.Answers.{IsAnswer, IsOnly}
use Rattle.layout_search.specs.declared.searching.Found.{Found}
use Rattle.layout_search.proofs.SearchAnswers.{partly, wholly, of_not, not_only}
use Rattle.layout_search.proofs.searching.search_within.Goals as goal

pub returns-then-state-eq0 : goal.returns-then-state-eq0
returns-then-state-eq0 c =
    let known = c.args.known.now in
    let image = c.args.image.now in
    let state = c.in_ok-state.state in
    let best = c.in_ok-best.best in
    let other = c.in_ok-other.other in
    let ended : state.work ≡ 0 = c.if-state-eq0.true in
    subst (λ (f : Found). IsAnswer known image f) (sym c.answer.ensures)
    (partly known image c.in-Some-best.best best other state c.in_ok-best.ensures.kept
    (c.in_ok-state.ensures.given_up ended) c.in-Some-best.is c.in_ok-state.ensures.so_far c.in_ok-best.ensures.first
    c.in_ok-best.ensures.usual c.in_ok-other.ensures.other c.in_ok-other.ensures.only)

pub returns-then-others-gt0 : goal.returns-then-others-gt0
returns-then-others-gt0 c =
    let known = c.args.known.now in
    let image = c.args.image.now in
    let others = c.in_ok-others.others in
    let state = c.in_ok-state.state in
    let best = c.in-Some-best.best in
    let work : 0 < state.work = omega arith in
    let left : 0 < others.work = omega arith in
    let kept = rw c.in-Some-best.is at c.in_ok-state.ensures.sound in
    let first = rw c.in-Some-best.is at (c.in_ok-state.ensures.first work) in
    subst (λ (f : Found). IsAnswer known image f) (sym c.answer-then-others-gt0.ensures)
    (subst (λ (r : Option Candidate). IsAnswer known image (record {
      candidate = best.candidate;
      tally = best.tally;
      taken = is_taken best.tally;
      rival = r;
      whole = true;
      limit = state.limit;
      reached = state.reached;
    })) (sym c.candidate_of-rival.ensures)
    (wholly known image best others.best true state kept first c.in_ok-others.ensures.sound c.in_ok-others.ensures.few
    (λ e. c.in_ok-others.ensures.settled left) (λ e. absurd (true≢false e)) (λ is. refl)))

pub returns : goal.returns
returns c =
    let known = c.args.known.now in
    let image = c.args.image.now in
    let others = c.in_ok-others.others in
    let other : Bool = c.in_ok-other-2.other in
    let state = c.in_ok-state.state in
    let best = c.in-Some-best.best in
    let work : 0 < state.work = omega arith in
    let ended : others.work ≡ 0 = omega arith in
    let kept = rw c.in-Some-best.is at c.in_ok-state.ensures.sound in
    let first = rw c.in-Some-best.is at (c.in_ok-state.ensures.first work) in
    subst (λ (f : Found). IsAnswer known image f) (sym c.answer-2.ensures)
    (subst (λ (r : Option Candidate). IsAnswer known image (record {
      candidate = best.candidate;
      tally = best.tally;
      taken = is_taken best.tally;
      rival = r;
      whole = not other;
      limit = state.limit;
      reached = state.reached;
    })) (sym c.candidate_of-rival.ensures)
    (wholly known image best others.best (not other) state kept first c.in_ok-others.ensures.sound
    c.in_ok-others.ensures.few
    (λ e d family differs few. absurd (c.in_ok-other-2.ensures.only (of_not other e) d family differs))
    (λ e. c.in_ok-others.ensures.given_up ended)
    (not_only other (IsOnly known image best.candidate) c.in_ok-other-2.ensures.other)))
