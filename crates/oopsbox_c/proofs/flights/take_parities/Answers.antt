-- Each turn takes the stores that come next
use Rattle.std.proofs.Common.{◌+◌, ◌<◌, ℕ, List, length, take, refl, sym, ap, ◌∙◌, subst, inl, inr, arith}
use Rattle.std.proofs.lemmas.Grind.{common_steps}
use Rattle.zone_spec.specs.Stores.{Store as DefinedStore, after_stores}
use Rattle.store_steps.specs.declared.steps.Steps.{Steps}
use Rattle.store_steps.specs.Flying.{flying}
use Rattle.store_steps.specs.Handed.{handed, IsInside}
use Rattle.std.specs.List.{flat_map}
use Rattle.oopsbox_c.specs.Stores.{row_stores, stores_in}
use Rattle.oopsbox_c.specs.declared.stores.StoreRow.{StoreRow}
use Rattle.ring_laws.proofs.Images.{after_stores-append}
use Rattle.store_steps.specs.Machine.{IsParity, IsSameData}
use Rattle.oopsbox_c.proofs.NextStores.{grown}
use Rattle.oopsbox_c.proofs.LeftStores.{coming_more, next_there}
use Rattle.oopsbox_c.proofs.flights.take_parities.Goals as goal

pub loop-steps-init : goal.loop-steps-init
unfolding after_stores
loop-steps-init c = record {
  kept = c.requires.kept;
  gathered = λ f now same begun. begun;
  coming = λ all begun. begun;
  idle = λ not. (refl, refl);
  zone = refl;
  apart = λ now. ap (λ n. take (12 + c.args.steps.now.zone.cap) (after_stores now
      (flat_map (λ (row : StoreRow). row_stores row c.args.line.now c.args.payload.now)
      (take n c.args.stores.now.stores)))) c.requires.empty;
  most = c.requires.most;
  least = omega arith;
  room = omega (arith, c.requires.empty);
  gone = inl (refl, refl);
  kind = refl;
}

pub loop-steps-preserved : goal.loop-steps-preserved
loop-steps-preserved c =
    let line : List ℕ = c.args.line.now in
    let payload : List ℕ = c.args.payload.now in
    let s : Steps = c.loop-steps.steps in
    let was = c.loop-steps.invariant in
    let next = c.next_parity.ensures in
    let more : List DefinedStore = handed c.next_parity.new.out line payload in
    let image : List ℕ = c.args.image.now in
    let xs : List DefinedStore = stores_in c.loop-steps.stores line payload in
    let some : 0 < length more = next.some in
    record {
      kept = next.kept;
      gathered = λ f now same begun.
          let g = was.gathered f now same begun in
          let here : IsSameData s.zone (after_stores now xs) image =
          was.apart now ∙ subst (λ z. IsSameData z now image) (sym was.zone) same in
          grown f now line payload s c.next_parity.new.self c.loop-steps.stores c.push.new.self more g next.kept
          next.same next.made (c.push.ensures.stores line payload)
          (c.push.ensures.inside f.zone.size line payload g.inside
          (subst (λ z. IsInside z c.next_parity.new.out line payload) (ap (λ z. z.size) g.same.zone) next.inside) some)
          (next.bytes (after_stores now xs) g.bytes)
          (λ before stands. next.handed (after_stores now xs) before here stands)
          (λ before stands. next.stands (after_stores now xs) before g.bytes here stands);
      coming = λ all begun.
          let g = was.coming all begun in
          coming_more all image line payload s c.next_parity.new.self c.loop-steps.stores c.push.new.self more g
          (c.push.ensures.stores line payload) (next.bytes (after_stores image xs) g.bytes)
          (next_there (flying s line payload) (flying c.next_parity.new.self line payload) image xs more
          (omega (arith, was.kept.sound.valid.room)) next.same.zone (was.apart image) next.coming);
      idle = λ not. absurd (not (subst (λ (x : Steps). IsParity x.place.phase) (was.idle not).0
          (c.is_parity.ensures.0 c.if-is_parity.true)));
      zone = next.same.zone ∙ was.zone;
      apart = λ now. subst (λ z. IsSameData z (after_stores now (stores_in c.push.new.self line payload)) now)
          (sym next.same.zone)
          (ap (take (12 + s.zone.cap)) (ap (after_stores now) (c.push.ensures.stores line payload)
          ∙ after_stores-append now xs more) ∙ next.apart (after_stores now xs) ∙ was.apart now);
      most = grind (arith, common_steps, next.made, next.most);
      least = omega (arith, was.least, next.made);
      room = grind (arith, common_steps, c.push.ensures.count);
      gone = inr (omega (arith, was.least, next.made, some));
      kind = next.kind ∙ was.kind;
    }
