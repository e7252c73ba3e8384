-- Each value of the word's list is of the family. One more settles its candidates and leaves the others settled. For
-- `walk`.
use Rattle.std.proofs.Common.{◌≡◌, ◌∙◌, Option, get_or, length, sym, ap, subst, arith}
use Rattle.layout_spec.specs.declared.Candidate.{Candidate}
use Rattle.layout_spec.specs.Family.{byte_order_for}
use Rattle.layout_search.specs.Levels.{IsListed, after, having, levels_from}
use Rattle.layout_search.specs.Placed.{IsPassed}
use Rattle.layout_search.specs.Tried.{IsSound, SettledOver, SettledBefore, TagsSettled}
use Rattle.layout_search.specs.declared.levels.Reached.{Reached}
use Rattle.layout_search.specs.declared.levels.Level.{Level}
use Rattle.layout_search.proofs.BestSoFar.{advances_trans, chosen_of, fewer_left, one_more, over_done, over_later}
use Rattle.layout_search.proofs.BestSoFar.{over_last, over_none, step_listed, step_settled, step_before, stop_here}
use Rattle.layout_search.proofs.BestSoFar.{before_nowhere, having_order}
use Rattle.layout_search.proofs.Nearer.{near_aim, settled_wider, before_wider}
use Rattle.layout_search.proofs.sweeping.+walk.Goals as goal

pub try_tags-requires-clause-chosen : goal.try_tags-requires-clause-chosen
try_tags-requires-clause-chosen t c =
    let known = c.args.known.now in
    let len = length c.args.image.now in
    let passed = rw c.in_default.is at c.requires.passed in
    chosen_of known len c.args.c.now
    (over_last known len (IsListed known len) c.args.c.now (rw c.in_default.is at c.requires.listed)) passed.placed

pub walk-requires : goal.walk-requires
walk-requires t c =
    let known = c.args.known.now in
    let len = length c.args.image.now in
    let fewer = fewer_left c.in-Some.level c.args.level c.next.result c.in-Some.is c.next.ensures in
    let listed = step_listed known len c.args.level c.next.result c.in-Some.level c.args.c.now c.having-candidate.result
    c.values-list.result.now c.loop-k.k c.in-Some.is c.next.ensures c.having-candidate.ensures
    (c.values-list.ensures known len c.requires.lists) c.loop-k-test.true c.requires.listed in
    let passed = subst (λ (o : Option Level). IsPassed o known len c.having-candidate.result) (sym c.next.ensures)
    (c.in_ok-may.ensures.passed c.if-not-may.false) in
    let sound = subst (λ (b : Option Candidate). IsSound known c.args.image.now b c.weigh.new.state.best)
    (sym c.narrowed-near.ensures.besides_is)
    (subst (IsSound known c.args.image.now c.args.aim.now.besides) (sym c.in_ok-may.ensures.best) c.loop-k.invariant.sound) in
    let near = near_aim c.args.image.now c.args.aim.now c.narrowed-near.result c.loop-k.state.best c.narrowed-near.ensures
    c.requires.aim in
    let ordered : c.having-candidate.result.byte_order ≡ byte_order_for known c.args.image.now =
    ap (λ (d : Candidate). d.byte_order) c.having-candidate.ensures
    ∙ having_order c.in-Some.level c.args.c.now (get_or c.values-list.result.now c.loop-k.k 0) ∙ c.requires.ordered in (
      omega (arith, c.decreases, fewer),
      (near, (c.requires.lists, (listed, (passed, (ordered, (sound, c.in_ok-may.ensures.seen)))))),
    )

pub returns-in_default-clause-settled : goal.returns-in_default-clause-settled
returns-in_default-clause-settled t c =
    let known = c.args.known.now in
    let image = c.args.image.now in
    let aim = c.args.aim.now in
    let s = c.try_tags.new.state in
    subst (λ (o : Option Level). SettledOver known image aim (levels_from o) c.args.c.now s) (sym c.in_default.is)
    (over_none known (length image) (TagsSettled known image aim s) c.args.c.now c.in_ok-try_tags.ensures.settled)

pub returns-then-state-eq0-clause-settled : goal.returns-then-state-eq0-clause-settled
returns-then-state-eq0-clause-settled t c =
    let known = c.args.known.now in
    let image = c.args.image.now in
    let aim = c.args.aim.now in
    let level = c.in-Some.level in
    let list = c.values-list.result.now in
    let s = c.weigh.new.state in
    let here = having level c.args.c.now (get_or list c.loop-k.k 0) in
    stop_here known image aim c.args.level level c.args.c.now s c.nowhere.result c.counted.result list c.loop-k.k
    c.in-Some.is
    c.counted.ensures (c.values-list.ensures known (length image) c.requires.lists)
    (λ j lt. over_later known image aim (after level) _ c.loop-k.state s c.in_ok-may.ensures.advances
    (c.loop-k.invariant.settled j lt))
    (subst (λ (r : Reached). SettledBefore known image aim (after level) here s r) (sym c.nowhere.ensures)
    (before_nowhere known (length image) (TagsSettled known image aim s) (after level) here))

pub loop-k-preserved-then-not-may : goal.loop-k-preserved-then-not-may
loop-k-preserved-then-not-may t c =
    let known = c.args.known.now in
    let image = c.args.image.now in
    let aim = c.args.aim.now in
    let s = c.weigh.new.state in
    let old = c.loop-k.invariant in
    let here = rw c.having-candidate.ensures at (c.in_ok-may.ensures.refused c.if-not-may.true s) in
    let last = settled_wider known image aim c.narrowed-near.result (after c.in-Some.level) _ c.loop-k.state s
    c.narrowed-near.ensures old.sound c.in_ok-may.ensures.advances here in record {
      advances = advances_trans old.advances c.in_ok-may.ensures.advances;
      settled = one_more known image aim c.in-Some.level c.args.c.now c.values-list.result.now c.loop-k.k
          c.loop-k.state s
          c.in_ok-may.ensures.advances old.settled last;
      sound = subst (IsSound known image aim.besides) (sym c.in_ok-may.ensures.best) old.sound;
      seen = c.in_ok-may.ensures.seen;
    }

pub returns-in-Some-stop-clause-settled : goal.returns-in-Some-stop-clause-settled
returns-in-Some-stop-clause-settled t c =
    let known = c.args.known.now in
    let image = c.args.image.now in
    let aim = c.args.aim.now in
    let level = c.in-Some.level in
    let list = c.values-list.result.now in
    let s = c.walk.new.state in
    let adv = advances_trans c.in_ok-may.ensures.advances c.in_ok-stop.ensures.advances in
    let inner = c.in-Some-stop.inner in
    stop_here known image aim c.args.level level c.args.c.now s inner c.counted-in-Some-stop.result list c.loop-k.k
    c.in-Some.is
    c.counted-in-Some-stop.ensures (c.values-list.ensures known (length image) c.requires.lists)
    (λ j lt. over_later known image aim (after level) _ c.loop-k.state s adv (c.loop-k.invariant.settled j lt))
    (before_wider known image aim c.narrowed-near.result (after level) _ c.loop-k.state s inner c.narrowed-near.ensures
    c.loop-k.invariant.sound adv
    (step_before known image c.narrowed-near.result c.next.result level c.args.c.now c.having-candidate.result
    (get_or list c.loop-k.k 0) s inner c.next.ensures c.having-candidate.ensures
    (rw c.in-Some-stop.is at c.in_ok-stop.ensures.settled)))

pub returns-clause-settled : goal.returns-clause-settled
returns-clause-settled t c =
    let known = c.args.known.now in
    let image = c.args.image.now in
    let aim = c.args.aim.now in
    let s = c.loop-k.state in
    subst (λ (o : Option Level). SettledOver known image aim (levels_from o) c.args.c.now s) (sym c.in-Some.is)
    (over_done known (length image) (TagsSettled known image aim s) c.in-Some.level c.args.c.now
    c.values-list.result.now
    (c.values-list.ensures known (length image) c.requires.lists) (λ j lt. c.loop-k.invariant.settled j (omega arith)))

pub loop-k-preserved : goal.loop-k-preserved
loop-k-preserved t c =
    let known = c.args.known.now in
    let image = c.args.image.now in
    let aim = c.args.aim.now in
    let old = c.loop-k.invariant in
    let s = c.walk.new.state in
    let adv = advances_trans c.in_ok-may.ensures.advances c.in_ok-stop.ensures.advances in
    let list = c.values-list.result.now in
    let here = step_settled known image c.narrowed-near.result c.next.result c.in-Some.level c.args.c.now
    c.having-candidate.result
    (get_or list c.loop-k.k 0) s c.next.ensures c.having-candidate.ensures
    (rw c.in_default-stop.is at c.in_ok-stop.ensures.settled) in
    let last = settled_wider known image aim c.narrowed-near.result (after c.in-Some.level) _ c.loop-k.state s
    c.narrowed-near.ensures old.sound adv here in record {
      advances = advances_trans old.advances adv;
      settled = one_more known image aim c.in-Some.level c.args.c.now list c.loop-k.k c.loop-k.state s adv
          old.settled last;
      sound = subst (λ (b : Option Candidate). IsSound known image b s.best) c.narrowed-near.ensures.besides_is
          c.in_ok-stop.ensures.sound;
      seen = c.in_ok-stop.ensures.seen;
    }
