-- What is handed out from a flight on, end to end
use Rattle.std.proofs.Common.{◌≡◌, ℕ, ◌+◌, ◌≤◌, List, [], ◌∷◌, ◌++◌, length, take, drop, refl, sym, ap, ap₂, ◌∙◌}
use Rattle.std.proofs.Common.{arith, append-nil, length-drop}
use Rattle.std.proofs.lemmas.List.{take_all, drop-drop, take-append-drop}
use Rattle.zone_spec.specs.declared.Zone.{Zone}
use Rattle.zone_spec.specs.declared.CallKind.{CallKind}
use Rattle.zone_spec.specs.Told.{Call}
use Rattle.zone_spec.specs.Stores.{Store, after_stores}
use Rattle.zone_spec.specs.Calls.{call_stores}
use Rattle.store_steps.specs.Calls.{call_of}
use Rattle.store_steps.specs.Machine.{IsAlike, StandsFor}
use Rattle.oopsbox_c.specs.declared.flights.Flight.{Flight}
use Rattle.oopsbox_c.specs.Numbers.{call_in}
use Rattle.oopsbox_c.specs.Places.{zone_in}
use Rattle.oopsbox_c.specs.Stores.{stores_in}
use Rattle.oopsbox_c.specs.Flights.{flight_in, IsNext}
use Rattle.oopsbox_c.specs.WholeFlights.{Answer, AreAnswers, EndsFinished, stores_of, FlightsAreWhole}

itself : (f : Flight) (now line payload : List ℕ) → IsAlike (flight_in f line payload) now now
itself f now line payload = record { bytes = λ h. h; parity = λ _. refl }

-- the answer's stores among all
next_of : (f : Flight) (a : Answer) (now before line payload : List ℕ) (z : Zone) (call : Call)
    → zone_in f.zone ≡ z → call_of (call_in f.kind) line payload ≡ call
    → StandsFor (flight_in f line payload) now before → IsNext f a.flight now line payload a.most a.stores
    → stores_in a.stores line payload ≡ take (length (stores_in a.stores line payload))
    (drop f.made (call_stores z call before))
next_of f a now before line payload z call ez ec stands next =
    next.handed now before (itself f now line payload) stands
    ∙ ap₂ (λ (y : Zone) (c : Call). take (length (stores_in a.stores line payload))
    (drop f.made (call_stores y c before))) ez ec

whole_from : (f : Flight) (now before line payload : List ℕ) (z : Zone) (call : Call) (answers : List Answer)
    → zone_in f.zone ≡ z → call_of (call_in f.kind) line payload ≡ call
    → StandsFor (flight_in f line payload) now before → AreAnswers f now line payload answers → EndsFinished answers
    → stores_of line payload answers ≡ drop f.made (call_stores z call before)
whole_from f now before line payload z call [] ez ec stands h end = absurd end
whole_from f now before line payload z call (a ∷ []) ez ec stands h end =
    let all : List Store = call_stores z call before in
    let xs : List Store = stores_in a.stores line payload in
    let total : f.made + length xs ≡ length all =
    sym h.0.made ∙ h.0.is_last.0 end ∙ stands.total
    ∙ ap₂ (λ (y : Zone) (c : Call). length (call_stores y c before)) ez ec in
    let rest : length (drop f.made all) ≤ length xs = omega (arith, total, length-drop f.made all) in
    append-nil xs ∙ next_of f a now before line payload z call ez ec stands h.0
    ∙ take_all (length xs) (drop f.made all) rest
whole_from f now before line payload z call (a ∷ b ∷ answers) ez ec stands h end =
    let all : List Store = call_stores z call before in
    let xs : List Store = stores_in a.stores line payload in
    let rest = whole_from a.flight (after_stores now xs) before line payload z call (b ∷ answers)
    (ap zone_in h.0.zone ∙ ez) (h.0.same.call ∙ ec)
    (h.0.stands now before (itself f now line payload) stands) h.1 end in
    ap₂ (λ (u v : List Store). u ++ v) (next_of f a now before line payload z call ez ec stands h.0)
    (rest ∙ ap (λ (k : ℕ). drop k all) h.0.made)
    ∙ ap (λ (v : List Store). take (length xs) (drop f.made all) ++ v) (sym (drop-drop (length xs) f.made all))
    ∙ take-append-drop (length xs) (drop f.made all)

pub whole_flights : FlightsAreWhole
whole_flights place kind image line payload f answers begun h end =
    whole_from f image image line payload (zone_in place) (call_of kind line payload) answers
    (ap zone_in begun.zone) (ap (λ (k : CallKind). call_of k line payload) begun.kind_is) begun.stands_for h end
    ∙ ap (λ (m : ℕ). drop m (call_stores (zone_in place) (call_of kind line payload) image)) begun.made
