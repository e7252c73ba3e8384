-- Where lines begin in the bytes of a log
use Rattle.std.specs.Prelude.{◌≡◌, ◌⊎◌, ℕ, ◌-◌, ◌<◌, ◌≤◌, List, length, slice_index}
use Rattle.kmsg_spec.specs.Bodies.{newline}

-- at the front, behind a newline, and at the end
abbrev pub IsStart : List ℕ → ℕ → Type 0
IsStart bytes p = (p ≡ 0) ⊎ (((0 < p) × (slice_index bytes (p - 1) ≡ newline)) ⊎ (p ≡ length bytes))

-- the first start from a place on
pub record IsFirstStart (bytes : List ℕ) (from p : ℕ) : Type 0 where
  pub low : from ≤ p
  pub high : p ≤ length bytes
  pub start : IsStart bytes p
  pub before : (k : ℕ) → from ≤ k → k < p → IsStart bytes k → ⊥
