-- The stores of the definitions that a store as it is handed out stands for
use Rattle.std.specs.Prelude.{ℕ, ◌≡◌, ◌+◌, ◌≤◌, List, [], length, take, drop}
use Rattle.zone_spec.specs.Stores.{Store as DefinedStore, byte_stores, word_store}
use Rattle.store_steps.specs.declared.store.Given.{Given}
use Rattle.store_steps.specs.declared.store.Given.TheVariants.{Word, Line, Payload, Parity, Nothing}
use Rattle.store_steps.specs.declared.store.Store.{Store}

abbrev pub handed_by : Given → Store → List ℕ → List ℕ → List DefinedStore
handed_by Word s line payload = word_store s.byte_order s.place s.word
handed_by Line s line payload = byte_stores s.place (take s.len (drop s.from line))
handed_by Payload s line payload = byte_stores s.place (take s.len (drop s.from payload))
handed_by Parity s line payload = byte_stores s.place (take s.len (drop s.from s.parity.items))
handed_by Nothing s line payload = []

-- a word at once, or a byte for each of the run, with this line and payload
abbrev pub handed : Store → List ℕ → List ℕ → List DefinedStore
handed s line payload = handed_by s.given s line payload

-- how many they are
abbrev pub handed_count : Store → List ℕ → List ℕ → ℕ
handed_count s line payload = length (handed s line payload)

-- a word has four bytes; a run ends among the bytes that it is of
abbrev pub IsWithinBytes : Given → Store → List ℕ → List ℕ → Type 0
IsWithinBytes Word s line payload = s.len ≡ 4
IsWithinBytes Line s line payload = s.from + s.len ≤ length line
IsWithinBytes Payload s line payload = s.from + s.len ≤ length payload
IsWithinBytes Parity s line payload = s.from + s.len ≤ length s.parity.items
IsWithinBytes Nothing s line payload = Unit {0}

-- within a zone of so many bytes, and within the bytes that are lent
pub record IsInside (size : ℕ) (s : Store) (line payload : List ℕ) : Type 0 where
  pub place : s.place + s.len ≤ size
  pub bytes : IsWithinBytes s.given s line payload
