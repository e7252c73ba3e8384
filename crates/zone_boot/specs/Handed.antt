-- The stores that are handed out, as the definitions know them
use Rattle.std.specs.Prelude.{◌≡◌, ℕ, ◌+◌, ◌≤◌, ◌↔◌, List, [], length}
use Rattle.zone_spec.specs.declared.params.ByteOrder.{ByteOrder}
use Rattle.zone_spec.specs.Stores.{Store, byte_stores, word_store}
use Rattle.zone_boot.specs.declared.handing.Given.{Given}
use Rattle.zone_boot.specs.declared.handing.Given.TheVariants.{Word, Bytes, Nothing}
use Rattle.zone_boot.specs.declared.handing.BootStore.{BootStore}

abbrev pub handed_by : Given → ByteOrder → ℕ → ℕ → List ℕ → List Store
handed_by Word order place word bytes = word_store order place word
handed_by Bytes order place word bytes = byte_stores place bytes
handed_by Nothing order place word bytes = []

-- a word at once, or a store for each byte
abbrev pub handed : BootStore → List Store
handed s = handed_by s.given s.byte_order s.place s.word s.bytes.items

abbrev pub len_by : Given → List ℕ → ℕ
len_by Word bytes = 4
len_by Bytes bytes = length bytes
len_by Nothing bytes = 0

-- how many bytes they are
abbrev pub handed_len : BootStore → ℕ
handed_len s = len_by s.given s.bytes.items

-- it says that there is nothing exactly where there is no store
abbrev pub IsPlain : BootStore → Type 0
IsPlain s = (s.given ≡ Nothing) ↔ (handed s ≡ [])

-- a store for each of some bytes, at places from lo on, below hi
pub record IsRun (lo hi : ℕ) (stores : List Store) : Type 0 where
  pub place : ℕ
  pub bytes : List ℕ
  pub are : stores ≡ byte_stores place bytes
  pub low : lo ≤ place
  pub high : place + length bytes ≤ hi
