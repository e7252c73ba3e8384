-- Without a layout each tag is settled. Else each tag of the list is of the family, and one more
-- is settled and leaves the others so. For `try_tags`.
use Rattle.std.proofs.Common.{◌≡◌, ◌∙◌, true, get_or, below_more, subst, arith}
use Rattle.layout_spec.specs.Family.{is_one_of, tags_for}
use Rattle.layout_search.specs.Tried.{IsSettled}
use Rattle.layout_search.proofs.Tags.{layout_untagged}
use Rattle.layout_search.proofs.Members.{member_at}
use Rattle.layout_search.proofs.BestSoFar.{no_layout, advances_trans, later, family_of, tags_done}
use Rattle.layout_search.proofs.tagging.try_tags.Goals as goal

pub returns-in_default-clause-settled : goal.returns-in_default-clause-settled
returns-in_default-clause-settled c =
    let none = rw c.in_default.is at c.in_ok-tags.ensures in record {
      all = λ t m. no_layout c.args.known.now c.args.image.now c.args.aim.now (record c.args.c.now { tag = t })
          c.args.state.now (layout_untagged c.args.c.now t ∙ none);
    }

pub loop-k-preserved : goal.loop-k-preserved
loop-k-preserved c =
    let are = c.as_slice-list.ensures.value ∙ (rw c.in-Some.is at c.in_ok-tags.ensures) in
    let tag = get_or c.as_slice-list.result.now c.loop-k.k 0 in
    let member : is_one_of tag (tags_for c.args.known.now c.args.image.now c.args.c.now) ≡ true =
    subst (λ xs. is_one_of tag xs ≡ true) are (member_at c.as_slice-list.result.now c.loop-k.k (omega arith)) in record {
      advances = advances_trans c.loop-k.invariant.advances c.in_ok-try_candidate.ensures.advances;
      settled = below_more
          (λ j. IsSettled c.args.known.now c.args.image.now c.args.aim.now
          (record c.args.c.now { tag = get_or c.as_slice-list.result.now j 0 }) c.try_candidate.new.state) c.loop-k.k
          (λ j lt. later c.in_ok-try_candidate.ensures.advances (c.loop-k.invariant.settled j lt))
          (c.in_ok-try_candidate.ensures.settled c.args.known.now);
      sound = c.in_ok-try_candidate.ensures.sound c.args.known.now
          (λ has. family_of c.args.known.now c.args.image.now c.args.c.now tag c.requires.chosen c.requires.ordered member has)
          c.loop-k.invariant.sound;
      seen = c.in_ok-try_candidate.ensures.seen;
    }

pub returns-clause-settled : goal.returns-clause-settled
returns-clause-settled c = tags_done c.args.known.now c.args.image.now c.args.aim.now c.args.c.now c.loop-k.state
    c.as_slice-list.result.now (c.as_slice-list.ensures.value ∙ (rw c.in-Some.is at c.in_ok-tags.ensures))
    (λ j lt. c.loop-k.invariant.settled j (omega arith))
