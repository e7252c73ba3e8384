-- Parities and then words and runs, from no stores on
use Rattle.std.proofs.Common.{◌≡◌, ℕ, ◌<◌, List, refl, sym, ap, ◌∙◌, subst, inl, inr, arith}
use Rattle.zone_spec.specs.Stores.{Store as DefinedStore}
use Rattle.store_steps.specs.declared.steps.Steps.{Steps}
use Rattle.store_steps.specs.declared.place.Phase.TheVariants.{Finished}
use Rattle.store_steps.specs.Flying.{flying}
use Rattle.store_steps.specs.Machine.{IsKept, IsParity, IsAlike, stores_left}
use Rattle.store_steps.specs.Counts.{total_of}
use Rattle.store_steps.proofs.FlightSteps.{ends}
use Rattle.oopsbox_c.specs.Gathered.{IsGathered}
use Rattle.oopsbox_c.specs.Stores.{stores_in}
use Rattle.oopsbox_c.specs.Flights.{steps_of}
use Rattle.oopsbox_c.specs.declared.stores.Stores.{Stores}
use Rattle.oopsbox_c.proofs.FlightAnswer.{gathered, answered, no_less, none_taken, parity_or_not}
use Rattle.oopsbox_c.proofs.LeftStores.{coming_yet, same_steps}
use Rattle.oopsbox_c.proofs.flights.go_on.Goals as goal

pub take_parities-requires-clause-kept : goal.take_parities-requires-clause-kept
take_parities-requires-clause-kept c = subst (λ s. IsKept (flying s c.args.line.now c.args.payload.now))
    (sym c.steps_of-steps.ensures) c.requires.flight.kept

pub flight_of-requires : goal.flight_of-requires
flight_of-requires c =
    let image : List ℕ = c.args.image.now in
    let line : List ℕ = c.args.line.now in
    let payload : List ℕ = c.args.payload.now in
    let s : Steps = c.steps_of-steps.result in
    let e : s ≡ steps_of c.args.flight.now = c.steps_of-steps.ensures in
    let kept : IsKept (flying s line payload) = subst (λ x. IsKept (flying x line payload)) (sym e)
    c.requires.flight.kept in
    let got = gathered s c.take_parities.new.steps c.take_data.new.steps c.clear.new.self c.take_parities.new.stores
    c.take_data.new.stores image line payload kept (c.clear.ensures.stores line payload)
    (c.clear.ensures.inside s.zone.size line payload) (λ i. omega (arith, c.type_inv.image i))
    c.take_parities.ensures.gathered c.take_parities.ensures.idle c.take_data.ensures.gathered image
    (record { bytes = λ h. h; parity = λ _. refl }) in
    got.same.zone ∙ ap (λ (x : Steps). x.zone) e

pub returns-clause-next : goal.returns-clause-next
returns-clause-next c =
    let image : List ℕ = c.args.image.now in
    let line : List ℕ = c.args.line.now in
    let payload : List ℕ = c.args.payload.now in
    let s : Steps = c.steps_of-steps.result in
    let p : Steps = c.take_parities.new.steps in
    let t : Steps = c.take_data.new.steps in
    let e : s ≡ steps_of c.args.flight.now = c.steps_of-steps.ensures in
    let kept : IsKept (flying s line payload) = subst (λ x. IsKept (flying x line payload)) (sym e)
    c.requires.flight.kept in
    let got = gathered s p t c.clear.new.self c.take_parities.new.stores c.take_data.new.stores image line payload kept
    (c.clear.ensures.stores line payload) (c.clear.ensures.inside s.zone.size line payload)
    (λ i. omega (arith, c.type_inv.image i)) c.take_parities.ensures.gathered c.take_parities.ensures.idle
    c.take_data.ensures.gathered in
    let first = c.take_parities.ensures.later in
    let second = c.take_data.ensures.later in
    let made : s.made ≡ c.args.flight.now.made = ap (λ (x : Steps). x.made) e in
    let all : total_of (flying s line payload) ≡ total_of (flying (steps_of c.args.flight.now) line payload) =
    ap (λ x. total_of (flying x line payload)) e in
    let some : s.made < total_of (flying s line payload) → s.made < t.made =
    (λ h.
    let open_still : s.place.phase ≡ Finished → ⊥ = (λ done.
    let end = (ends (flying s line payload) kept).0 done in omega (arith, h, end)) in
    elim (parity_or_not s.place.phase) [
      | inl is ↦ (let l = c.take_parities.ensures.some is (omega (arith, c.requires.some)) in
          let m = no_less second in omega (arith, l, m))
      | inr not ↦ elim first [
        | inl same ↦ (let ep : p ≡ s = same.0 in
            let es : c.take_parities.new.stores ≡ c.clear.new.self = same.1 in
            let count = ap (λ (o : Stores). o.count) es in
            let pm = ap (λ (x : Steps). x.made) ep in
            let l = c.take_data.ensures.some
            (subst (λ (x : Steps). IsParity x.place.phase → ⊥) (sym ep) not)
            (subst (λ (x : Steps). x.place.phase ≡ Finished → ⊥) (sym ep) open_still)
            (omega (arith, count, c.clear.ensures.count)) (omega (arith, pm, c.requires.some)) in
            omega (arith, l, pm))
        | inr l ↦ (let m = no_less second in omega (arith, l, m))
      ]
    ]) in
    let none : t.made ≡ s.made → c.take_data.new.stores.count ≡ 0 = (λ h.
    let m = no_less first in
    let n = no_less second in
    let ea = none_taken first (omega (arith, h, m, n)) in
    let eb = none_taken second (omega (arith, h, m, n)) in
    ap (λ (o : Stores). o.count) eb ∙ ap (λ (o : Stores). o.count) ea ∙ c.clear.ensures.count) in
    let of = c.flight_of.ensures in
    answered c.args.flight.now c.flight_of.result image line payload c.args.most c.flag-stores.result t
    c.take_data.new.stores c.requires.flight
    (subst (λ (x : Steps). (now : List ℕ) → IsAlike (flying x line payload) image now
    → IsGathered (flying x line payload) now line payload t c.take_data.new.stores) e got)
    (record {
      steps = of.steps;
      zone = of.zone;
      line = of.line;
      payload = of.payload;
      kind = of.kind;
      leg = of.leg;
      phase = of.phase;
    })
    c.flag-stores.ensures.most (
      λ f. c.is_finished.ensures.0 (c.flag-stores.ensures.value.0 f),
      λ f. c.flag-stores.ensures.value.1 (c.is_finished.ensures.1 f),
    )
    (omega (arith, c.take_data.ensures.most, made))
    (λ h. let l = some (omega (arith, h, made, all)) in omega (arith, l, made))
    (λ h. none (omega (arith, h, made)))
    (elim c.take_data.ensures.stops [ inl m ↦ inl (omega (arith, m, made)) | inr r ↦ inr r ])

pub returns-clause-coming : goal.returns-clause-coming
returns-clause-coming c =
    let image : List ℕ = c.args.image.now in
    let line : List ℕ = c.args.line.now in
    let payload : List ℕ = c.args.payload.now in
    let s : Steps = c.steps_of-steps.result in
    let all : List DefinedStore = stores_left (flying s line payload) image in
    let out : List DefinedStore = stores_in c.take_data.new.stores line payload in
    let got = c.take_data.ensures.coming all image (c.take_parities.ensures.coming all
    (coming_yet image line payload s c.clear.new.self (c.clear.ensures.stores line payload)
    (λ i. omega (arith, c.type_inv.image i)))) in
    same_steps (steps_of c.args.flight.now) s c.take_data.new.steps (steps_of c.flight_of.result) image line payload out
    c.steps_of-steps.ensures c.flight_of.ensures.steps got.whole
