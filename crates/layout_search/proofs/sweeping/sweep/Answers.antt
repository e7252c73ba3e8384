-- With the candidates of each value of the first word settled, every candidate is settled. For `sweep`.
use Rattle.std.proofs.Common.{◌≡◌, ◌∙◌, ℕ, List, true, ap, subst}
use Rattle.std.specs.Prelude.{length, unwrap_or}
use Rattle.zone_spec.specs.declared.params.ByteOrder.{ByteOrder}
use Rattle.layout_spec.specs.declared.Known.{Known}
use Rattle.layout_spec.specs.Marks.{byte_order_in}
use Rattle.layout_spec.specs.Family.{byte_order_for}
use Rattle.layout_search.specs.Walked.{is_walked, all_levels}
use Rattle.layout_search.specs.declared.levels.Reached.{Reached}
use Rattle.layout_search.proofs.BestSoFar.{all_settled, part_settled, start_listed}
use Rattle.layout_search.proofs.sweeping.sweep.Goals as goal

ordered : (known : Known) (b : ByteOrder) (image : List ℕ) → b ≡ byte_order_in image → (r : ByteOrder)
    → r ≡ unwrap_or known.byte_order b → r ≡ byte_order_for known image
ordered known b image e r h = h ∙ ap (unwrap_or known.byte_order) e

pub walk-requires-clause-listed : goal.walk-requires-clause-listed
walk-requires-clause-listed c = start_listed c.args.known.now (length c.args.image.now) _

pub returns-clause-settled : goal.returns-clause-settled
returns-clause-settled c = λ work d. record {
  settled = (all_settled c.args.known.now c.args.image.now c.args.aim.now _ c.walk.new.state
      (ordered c.args.known.now c.args.sights.now.byte_order c.args.image.now c.requires.seen.byte_order_is _
      c.unwrap_or.ensures)
      (rw (c.in_ok-stop.ensures.whole work) at c.in_ok-stop.ensures.settled) d).settled;
}

pub returns-clause-part : goal.returns-clause-part
returns-clause-part c = λ d walked. record {
  settled = (part_settled c.args.known.now c.args.image.now c.args.aim.now _ c.walk.new.state c.in_ok-stop.stop
      (ordered c.args.known.now c.args.sights.now.byte_order c.args.image.now c.requires.seen.byte_order_is _
      c.unwrap_or.ensures)
      c.in_ok-stop.ensures.settled d (subst (λ (r : Reached). is_walked c.args.known.now (length c.args.image.now)
      all_levels r d
      ≡ true) (c.unwrap_or-state.ensures ∙ ap (unwrap_or c.in_ok-stop.stop) c.nowhere.ensures) walked)).settled;
}
