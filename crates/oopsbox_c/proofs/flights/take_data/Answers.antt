-- Each turn takes the stores that come next
use Rattle.std.proofs.Common.{◌<◌, ℕ, List, length, ap, ◌∙◌, subst, inr, arith}
use Rattle.std.proofs.lemmas.Grind.{common_steps}
use Rattle.zone_spec.specs.Stores.{Store as DefinedStore, after_stores}
use Rattle.store_steps.specs.declared.steps.Steps.{Steps}
use Rattle.store_steps.specs.Flying.{flying}
use Rattle.store_steps.specs.Handed.{handed, IsInside}
use Rattle.oopsbox_c.specs.Stores.{stores_in}
use Rattle.oopsbox_c.proofs.NextStores.{grown, more_left}
use Rattle.oopsbox_c.proofs.LeftStores.{coming_more}
use Rattle.oopsbox_c.proofs.flights.take_data.Goals as goal

pub loop-steps-preserved : goal.loop-steps-preserved
loop-steps-preserved c =
    let line : List ℕ = c.args.line.now in
    let payload : List ℕ = c.args.payload.now in
    let s : Steps = c.loop-steps.steps in
    let was = c.loop-steps.invariant in
    let next = c.next_data.ensures in
    let more : List DefinedStore = handed c.next_data.new.out line payload in
    let left = more_left (flying s line payload) was.kept (λ e.
    let t = c.is_finished.ensures.1 e in grind (arith, common_steps, t)) in
    let some : 0 < length more = next.some left in
    record {
      kept = next.kept;
      gathered = λ f image begun.
          let g = was.gathered f image begun in
          let now : List ℕ = after_stores image (stores_in c.loop-steps.stores line payload) in
          grown f image line payload s c.next_data.new.self c.loop-steps.stores c.push.new.self more g next.kept
          next.same next.made (c.push.ensures.stores line payload)
          (c.push.ensures.inside f.zone.size line payload g.inside
          (subst (λ z. IsInside z c.next_data.new.out line payload) (ap (λ z. z.size) g.same.zone) next.inside) some)
          (next.bytes now g.bytes) (next.handed now)
          (λ before stands. next.stands now before g.bytes stands);
      coming = λ all image begun.
          let g = was.coming all image begun in
          let now : List ℕ = after_stores image (stores_in c.loop-steps.stores line payload) in
          coming_more all image line payload s c.next_data.new.self c.loop-steps.stores c.push.new.self more g
          (c.push.ensures.stores line payload) (next.bytes now g.bytes) (next.coming now g.bytes);
      most = grind (arith, common_steps, next.made, next.most);
      least = omega (arith, was.least, next.made);
      room = grind (arith, common_steps, c.push.ensures.count);
      gone = inr (omega (arith, was.least, next.made, some));
      kind = next.kind ∙ was.kind;
    }
