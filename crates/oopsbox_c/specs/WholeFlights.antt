-- A call from its begin to its end
use Rattle.std.specs.Prelude.{◌≡◌, ℕ, List, [], ◌∷◌, flat_map}
use Rattle.zone_spec.specs.declared.CallKind.{CallKind}
use Rattle.zone_spec.specs.Stores.{Store, after_stores}
use Rattle.zone_spec.specs.Calls.{call_stores}
use Rattle.store_steps.specs.Calls.{call_of}
use Rattle.oopsbox_c.specs.Flights.{IsBegun, IsNext}
use Rattle.oopsbox_c.specs.Places.{zone_in}
use Rattle.oopsbox_c.specs.Stores.{stores_in}
use Rattle.oopsbox_c.specs.declared.places.ZonePlace.{ZonePlace}
use Rattle.oopsbox_c.specs.declared.flights.Flight.{Flight}
use Rattle.oopsbox_c.specs.declared.stores.Stores.{Stores}

-- how many stores were asked for, and what was answered: the flight behind them, and the stores
pub record Answer : Type 0 where
  pub most : ℕ
  pub flight : Flight
  pub stores : Stores

-- answers one after another, to a caller that makes the stores of each before it asks again
abbrev pub AreAnswers : Flight → List ℕ → List ℕ → List ℕ → List Answer → Type 0
AreAnswers f image line payload [] = Unit {0}
AreAnswers f image line payload (a ∷ answers) = IsNext f a.flight image line payload a.most a.stores
    × AreAnswers a.flight (after_stores image (stores_in a.stores line payload)) line payload answers

-- the last of them tells that no store is left
abbrev pub EndsFinished : List Answer → Type 0
EndsFinished [] = ⊥
EndsFinished (a ∷ []) = a.stores.is_last ≡ 1
EndsFinished (a ∷ b ∷ answers) = EndsFinished (b ∷ answers)

-- the stores of all answers, end to end
abbrev pub stores_of : List ℕ → List ℕ → List Answer → List Store
stores_of line payload answers = flat_map (λ (a : Answer). stores_in a.stores line payload) answers

-- they are all stores of the call, in order
abbrev pub FlightsAreWhole : Type 0
FlightsAreWhole = (place : ZonePlace) (kind : CallKind) (image line payload : List ℕ) (f : Flight)
    (answers : List Answer) → IsBegun place kind image line payload f → AreAnswers f image line payload answers
    → EndsFinished answers
    → stores_of line payload answers ≡ call_stores (zone_in place) (call_of kind line payload) image
