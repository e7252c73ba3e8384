-- An answer as far as it is gathered
use Rattle.std.specs.Prelude.{◌≡◌, ℕ, ◌+◌, ◌<◌, ◌⊎◌, List, ◌++◌, length, take, drop}
use Rattle.zone_spec.specs.Parts.{AreBytes}
use Rattle.zone_spec.specs.Stores.{Store, after_stores}
use Rattle.zone_spec.specs.Calls.{call_stores}
use Rattle.store_steps.specs.declared.steps.Steps.{Steps}
use Rattle.store_steps.specs.Flying.{Flying, flying, IsSameCall}
use Rattle.store_steps.specs.Machine.{IsKept, StandsFor, stores_left}
use Rattle.oopsbox_c.specs.Stores.{stores_in, AreInside}
use Rattle.oopsbox_c.specs.declared.stores.Stores.{Stores}

-- its stores are the next ones of the flight f on this image, and the steps stand behind them
pub record IsGathered (f : Flying) (image line payload : List ℕ) (s : Steps) (out : Stores) : Type 0 where
  pub kept : IsKept (flying s line payload)
  pub same : IsSameCall f (flying s line payload)
  pub made : s.made ≡ f.made + length (stores_in out line payload)
  pub inside : AreInside f.zone.size out line payload
  pub bytes : AreBytes (after_stores image (stores_in out line payload))
  pub handed : (before : List ℕ) → StandsFor f image before → stores_in out line payload
      ≡ take (length (stores_in out line payload)) (drop f.made (call_stores f.zone f.call before))
  pub stands : (before : List ℕ) → StandsFor f image before
      → StandsFor (flying s line payload) (after_stores image (stores_in out line payload)) before

-- its stores are the first of all these; the others are those that the steps leave on the image after them
pub record IsComing (all : List Store) (image line payload : List ℕ) (s : Steps) (out : Stores) : Type 0 where
  pub bytes : AreBytes (after_stores image (stores_in out line payload))
  pub whole : all ≡ stores_in out line payload
      ++ stores_left (flying s line payload) (after_stores image (stores_in out line payload))

-- nothing was taken, or more stores are made
abbrev pub HasGone : Steps → Steps → Stores → Stores → Type 0
HasGone s t old new = ((t ≡ s) × (new ≡ old)) ⊎ (s.made < t.made)
