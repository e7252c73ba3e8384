-- A word that went from another towards its nearest codeword
use Rattle.std.specs.Prelude.{ℕ, ◌≡◌, ◌<◌, ◌≤◌, ◌⊎◌, List, length, slice_index, Some, None}
use Rattle.code_spec.specs.Code.{nearest, distance}

-- v has at each place what w has, or what w's nearest codeword has
abbrev pub IsToward : ℕ → List ℕ → List ℕ → Type 0
IsToward r w v = (i : ℕ) → i < length w → (slice_index v i ≡ slice_index w i) ⊎
    ((c : List ℕ) × (nearest r w ≡ Some c) × (slice_index v i ≡ slice_index c i))

-- v has w's nearest codeword, no further away; without one it is w
pub record StandsFor (r : ℕ) (w v : List ℕ) : Type 0 where
  pub same : nearest r v ≡ nearest r w
  pub none : nearest r w ≡ None → v ≡ w
  pub closer : (c : List ℕ) → nearest r w ≡ Some c → distance v c ≤ distance w c
