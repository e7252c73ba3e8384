-- At the end nothing is handed out; before it the next word or run is, the same on every image,
-- and never nothing. For `next_data`.
use Rattle.std.proofs.Common.{◌≡◌, ℕ, [], ◌++◌, length, refl, sym, ap, ◌∙◌, subst, take, drop, arith}
use Rattle.zone_spec.specs.Parts.{AreBytes}
use Rattle.zone_spec.specs.Stores.{after_stores}
use Rattle.zone_spec.specs.Calls.{call_stores}
use Rattle.store_steps.specs.Handed.{handed, handed_by}
use Rattle.store_steps.specs.Flying.{Flying, flying}
use Rattle.store_steps.specs.Machine.{StandsFor, next_stores, stores_left}
use Rattle.store_steps.proofs.FlightSteps.{ends}
use Rattle.store_steps.proofs.FlightImage.{next_is}
use Rattle.store_steps.proofs.HandOut.{call_of_bytes, no_bytes}
use Rattle.store_steps.proofs.Data.{data_length, bytes_next}
use Rattle.store_steps.proofs.steps.Steps.next_data.Goals as goal

-- ---- at the end nothing is handed out

pub returns-then-is_finished-clause-stands : goal.returns-then-is_finished-clause-stands
unfolding after_stores
returns-then-is_finished-clause-stands c = λ now before bytes stands.
    subst (λ ss. StandsFor (flying c.args.self.now c.args.line.now c.args.payload.now) (after_stores now ss) before)
    (sym (c.set_nothing.ensures.handed c.args.line.now c.args.payload.now)) stands

pub returns-then-is_finished-clause-bytes : goal.returns-then-is_finished-clause-bytes
unfolding after_stores
returns-then-is_finished-clause-bytes c = λ now bytes. subst (λ ss. AreBytes (after_stores now ss))
    (sym (c.set_nothing.ensures.handed c.args.line.now c.args.payload.now)) bytes

pub returns-then-is_finished-clause-some : goal.returns-then-is_finished-clause-some
returns-then-is_finished-clause-some c = λ h.
    let all = (ends (flying c.args.self.now c.args.line.now c.args.payload.now) c.requires.kept).0
    (c.is_finished.ensures.0 c.if-is_finished.true) in
    absurd (omega (arith, h, all))

pub returns-then-is_finished-clause-inside : goal.returns-then-is_finished-clause-inside
returns-then-is_finished-clause-inside c =
    c.set_nothing.ensures.inside c.args.self.now.zone.size c.args.line.now c.args.payload.now

pub returns-then-is_finished-clause-coming : goal.returns-then-is_finished-clause-coming
unfolding after_stores
returns-then-is_finished-clause-coming c = λ now bytes.
    let f : Flying = flying c.args.self.now c.args.line.now c.args.payload.now in
    subst (λ ss. stores_left f now ≡ ss ++ stores_left f (after_stores now ss))
    (sym (c.set_nothing.ensures.handed c.args.line.now c.args.payload.now)) refl

-- ---- before it the next stores of the phase are

pub returns-clause-made : goal.returns-clause-made
returns-clause-made c =
    let f : Flying = flying c.args.self.now c.args.line.now c.args.payload.now in
    let len = ap length (c.give_data.ensures.stores [])
    ∙ data_length f [] c.next_count-count.result c.requires.data c.next_count-count.ensures.ready in
    omega (arith, len, c.move_on.ensures.made)

pub returns-clause-some : goal.returns-clause-some
returns-clause-some c = λ h.
    let f : Flying = flying c.args.self.now c.args.line.now c.args.payload.now in
    let len = ap length (c.give_data.ensures.stores [])
    ∙ data_length f [] c.next_count-count.result c.requires.data c.next_count-count.ensures.ready in
    omega (arith, len, c.next_count-count.ensures.some)

pub returns-clause-bytes : goal.returns-clause-bytes
returns-clause-bytes c = λ now bytes.
    let f : Flying = flying c.args.self.now c.args.line.now c.args.payload.now in
    let call_bytes = call_of_bytes c.args.self.now.kind c.args.line.now c.args.payload.now
    (λ i. omega (arith, c.type_inv.line i)) (λ i. omega (arith, c.type_inv.payload i)) in
    subst (λ ss. AreBytes (after_stores now ss)) (sym (c.give_data.ensures.stores []))
    (bytes_next f now [] c.next_count-count.result c.requires.kept.sound.valid call_bytes no_bytes bytes)

pub returns-clause-handed : goal.returns-clause-handed
returns-clause-handed c = λ now before stands.
    let f : Flying = flying c.args.self.now c.args.line.now c.args.payload.now in
    let n : ℕ = c.next_count-count.result in
    let len : length (next_stores f now n) ≡ n =
    data_length f now n c.requires.data c.next_count-count.ensures.ready in
    c.give_data.ensures.stores now
    ∙ sym (next_is f now before n (omega (arith, c.requires.kept.sound.valid.room)) stands len)
    ∙ ap (λ k. take k (drop f.made (call_stores f.zone f.call before)))
    (sym (ap length (c.give_data.ensures.stores now) ∙ len))

pub returns-clause-stands : goal.returns-clause-stands
returns-clause-stands c = λ now before bytes stands.
    subst (λ ss. StandsFor (flying c.move_on.new.self c.args.line.now c.args.payload.now) (after_stores now ss) before)
    (sym (c.give_data.ensures.stores now)) (c.move_on.ensures.stands now before bytes stands)

pub returns-clause-finished : goal.returns-clause-finished
returns-clause-finished c =
    let f : Flying = flying c.args.self.now c.args.line.now c.args.payload.now in
    let n : ℕ = c.next_count-count.result in
    let len = ap length (c.give_data.ensures.stores [])
    ∙ data_length f [] n c.requires.data c.next_count-count.ensures.ready in (
      λ e. absurd (let none : handed c.give_data.new.out c.args.line.now c.args.payload.now ≡ [] =
          ap (λ v. handed_by v c.give_data.new.out c.args.line.now c.args.payload.now) e in
          let zero = ap length none in
          omega (arith, len, zero, c.next_count-count.ensures.some)),
      λ e. absurd (omega (
        arith,
        e,
        c.requires.kept.counted,
        c.next_count-count.ensures.ready,
        c.next_count-count.ensures.some,
      )),
    )

pub returns-clause-most : goal.returns-clause-most
returns-clause-most c =
    let f : Flying = flying c.args.self.now c.args.line.now c.args.payload.now in
    let len = ap length (c.give_data.ensures.stores [])
    ∙ data_length f [] c.next_count-count.result c.requires.data c.next_count-count.ensures.ready in
    omega (arith, len, c.next_count-count.ensures.most)

pub returns-clause-coming : goal.returns-clause-coming
returns-clause-coming c = λ now bytes.
    let f : Flying = flying c.args.self.now c.args.line.now c.args.payload.now in
    let g : Flying = flying c.move_on.new.self c.args.line.now c.args.payload.now in
    subst (λ ss. stores_left f now ≡ ss ++ stores_left g (after_stores now ss))
    (sym (c.give_data.ensures.stores now)) (c.move_on.ensures.coming now bytes)
