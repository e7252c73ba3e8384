-- All stores of a call, handed out at once
use Rattle.std.specs.Prelude.{◌≡◌, ℕ, ◌+◌, ◌<◌, ◌≤◌, List, ◌++◌, length, take, drop}
use Rattle.zone_spec.specs.Stores.{Store, after_stores, byte_stores, word_store}
use Rattle.zone_spec.specs.Calls.{call_stores}
use Rattle.store_steps.specs.Counts.{total_of}
use Rattle.store_steps.specs.Flying.{Flying, flying, IsSameCall}
use Rattle.store_steps.specs.Machine.{IsKept, StandsFor}
use Rattle.store_steps.specs.PlainAppends.{size_store}
use Rattle.store_steps.specs.declared.plain.Whole.{Whole}
use Rattle.store_steps.specs.declared.steps.Steps.{Steps}
use Rattle.zone_spec.specs.declared.CallKind.TheVariants.{Append}

-- the words, and the bytes of the payload in two runs
abbrev pub whole_handed : Whole → List ℕ → List Store
whole_handed w payload =
    (size_store w.byte_order w.size ++ word_store w.byte_order 4 w.start)
    ++ (byte_stores w.place (take w.first (drop w.from payload))
    ++ byte_stores 12 (take w.second (drop (w.from + w.first) payload)))

-- within a zone of so many bytes, and within the payload; the first run has bytes
pub record IsWholeInside (size : ℕ) (w : Whole) (payload : List ℕ) : Type 0 where
  pub words : 12 ≤ size
  pub some : 0 < w.first
  pub first : w.place + w.first ≤ size
  pub second : 12 + w.second ≤ size
  pub bytes : w.from + w.first + w.second ≤ length payload

-- the first flight had handed out none, and the second all stores of the call, at most so many
pub record TakesWhole (f g : Flying) (w : Whole) (payload : List ℕ) (most : ℕ) : Type 0 where
  pub kept : IsKept g
  pub same : IsSameCall f g
  pub fresh : f.made ≡ 0
  pub made : g.made ≡ total_of f
  pub few : total_of f ≤ most
  pub count : length (whole_handed w payload) ≡ total_of f
  pub inside : IsWholeInside f.zone.size w payload
  pub stores : (now before : List ℕ) → StandsFor f now before
      → whole_handed w payload ≡ call_stores f.zone f.call before
  pub stands : (now before : List ℕ) → StandsFor f now before
      → StandsFor g (after_stores now (whole_handed w payload)) before

-- an append of some bytes without parity, of which no store was handed out, with at most so many
pub record IsWholeCall (s : Steps) (line payload : List ℕ) (most : ℕ) : Type 0 where
  pub kind : s.kind ≡ Append
  pub parity : s.zone.parity ≡ 0
  pub fresh : s.made ≡ 0
  pub some : 0 < length payload
  pub few : total_of (flying s line payload) ≤ most
