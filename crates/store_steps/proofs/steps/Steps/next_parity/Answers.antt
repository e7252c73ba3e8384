-- What is handed out is the next parity, the same on every image with this header and data, and
-- never nothing. For `next_parity`.
use Rattle.std.proofs.Common.{◌≡◌, ℕ, ◌<◌, List, ◌++◌, length, sym, ap, ◌∙◌, subst, take, drop, arith}
use Rattle.zone_spec.specs.Parts.{AreBytes}
use Rattle.zone_spec.specs.Stores.{after_stores}
use Rattle.zone_spec.specs.Calls.{call_stores}
use Rattle.store_steps.specs.Flying.{Flying, flying}
use Rattle.store_steps.specs.Machine.{StandsFor, IsSameData, next_stores, stores_left}
use Rattle.store_steps.proofs.FlightSteps.{next_length}
use Rattle.store_steps.proofs.FlightImage.{next_is}
use Rattle.store_steps.proofs.HandOut.{call_of_bytes}
use Rattle.store_steps.proofs.Data.{next_same, apart_next, bytes_next}
use Rattle.store_steps.proofs.steps.Steps.next_parity.Goals as goal

pub returns-clause-made : goal.returns-clause-made
returns-clause-made c =
    let f : Flying = flying c.args.self.now c.args.line.now c.args.payload.now in
    let n : ℕ = c.next_count-count.result in
    let len = ap length c.give_parities.ensures.stores
    ∙ next_length f c.args.image.now n (λ i. omega (arith, c.type_inv.image i)) c.next_count-count.ensures.ready in
    omega (arith, len, c.move_on.ensures.made)

pub returns-clause-left : goal.returns-clause-left
returns-clause-left c = omega (
  arith,
  c.requires.kept.counted,
  c.next_count-count.ensures.ready,
  c.next_count-count.ensures.some,
)

pub returns-clause-some : goal.returns-clause-some
returns-clause-some c =
    let f : Flying = flying c.args.self.now c.args.line.now c.args.payload.now in
    let n : ℕ = c.next_count-count.result in
    let len = ap length c.give_parities.ensures.stores
    ∙ next_length f c.args.image.now n (λ i. omega (arith, c.type_inv.image i)) c.next_count-count.ensures.ready in
    omega (arith, len, c.next_count-count.ensures.some)

pub returns-clause-bytes : goal.returns-clause-bytes
returns-clause-bytes c = λ now bytes.
    let f : Flying = flying c.args.self.now c.args.line.now c.args.payload.now in
    let call_bytes = call_of_bytes c.args.self.now.kind c.args.line.now c.args.payload.now
    (λ i. omega (arith, c.type_inv.line i)) (λ i. omega (arith, c.type_inv.payload i)) in
    subst (λ ss. AreBytes (after_stores now ss)) (sym c.give_parities.ensures.stores)
    (bytes_next f now c.args.image.now c.next_count-count.result c.requires.kept.sound.valid call_bytes
    (λ i. omega (arith, c.type_inv.image i)) bytes)

pub returns-clause-apart : goal.returns-clause-apart
returns-clause-apart c = λ now.
    let f : Flying = flying c.args.self.now c.args.line.now c.args.payload.now in
    subst (λ ss. IsSameData f.zone (after_stores now ss) now) (sym c.give_parities.ensures.stores)
    (apart_next f now c.args.image.now c.next_count-count.result c.requires.parity)

pub returns-clause-handed : goal.returns-clause-handed
returns-clause-handed c = λ now before same stands.
    let f : Flying = flying c.args.self.now c.args.line.now c.args.payload.now in
    let n : ℕ = c.next_count-count.result in
    let some : 0 < f.zone.cap = omega (arith, c.requires.kept.sound.valid.room) in
    let here = c.give_parities.ensures.stores ∙ sym (next_same f now c.args.image.now n some same) in
    let len : length (next_stores f now n) ≡ n =
    ap length (next_same f now c.args.image.now n some same)
    ∙ next_length f c.args.image.now n (λ i. omega (arith, c.type_inv.image i)) c.next_count-count.ensures.ready in
    here ∙ sym (next_is f now before n some stands len)
    ∙ ap (λ k. take k (drop f.made (call_stores f.zone f.call before))) (sym (ap length here ∙ len))

pub returns-clause-stands : goal.returns-clause-stands
returns-clause-stands c = λ now before bytes same stands.
    let f : Flying = flying c.args.self.now c.args.line.now c.args.payload.now in
    let n : ℕ = c.next_count-count.result in
    let some : 0 < f.zone.cap = omega (arith, c.requires.kept.sound.valid.room) in
    subst (λ ss. StandsFor (flying c.move_on.new.self c.args.line.now c.args.payload.now) (after_stores now ss) before)
    (sym (c.give_parities.ensures.stores ∙ sym (next_same f now c.args.image.now n some same)))
    (c.move_on.ensures.stands now before bytes stands)

pub returns-clause-most : goal.returns-clause-most
returns-clause-most c =
    let f : Flying = flying c.args.self.now c.args.line.now c.args.payload.now in
    let n : ℕ = c.next_count-count.result in
    let len = ap length c.give_parities.ensures.stores
    ∙ next_length f c.args.image.now n (λ i. omega (arith, c.type_inv.image i)) c.next_count-count.ensures.ready in
    omega (arith, len, c.next_count-count.ensures.most)

pub returns-clause-coming : goal.returns-clause-coming
returns-clause-coming c =
    let f : Flying = flying c.args.self.now c.args.line.now c.args.payload.now in
    let g : Flying = flying c.move_on.new.self c.args.line.now c.args.payload.now in
    let image : List ℕ = c.args.image.now in
    subst (λ ss. stores_left f image ≡ ss ++ stores_left g (after_stores image ss))
    (sym c.give_parities.ensures.stores) (c.move_on.ensures.coming image (λ i. omega (arith, c.type_inv.image i)))
