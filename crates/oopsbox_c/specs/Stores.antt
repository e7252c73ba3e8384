-- The stores of the definitions that stores as C sees them stand for
use Rattle.std.specs.Prelude.{ℕ, ◌≡◌, ◌+◌, ◌<◌, ◌≤◌, ◌⊎◌, List, [], ◌∷◌, if◌then◌else◌, ◌==◌, length, take, drop}
use Rattle.std.specs.List.{flat_map, AllByRecursion}
use Rattle.std.proofs.Common.{w32}
use Rattle.zone_spec.specs.Stores.{Store, byte_stores}
use Rattle.oopsbox_c.specs.declared.stores.StoreRow.{StoreRow}
use Rattle.oopsbox_c.specs.declared.stores.Stores.{Stores}
use Rattle.std.specs.Int.{to_le_bytes}

-- four bytes at once, or a byte for each of the run
abbrev pub row_stores : StoreRow → List ℕ → List ℕ → List Store
row_stores s line payload =
    if s.what == 0 then record { place = s.place; bytes = take 4 s.bytes } ∷ []
    else (if s.what == 1 then byte_stores s.place (take s.len (drop s.from line))
    else (if s.what == 2 then byte_stores s.place (take s.len (drop s.from payload))
    else (if s.what == 3 then byte_stores s.place (take s.len s.bytes)
    else [])))

-- the first rows' stores, end to end
abbrev pub stores_in : Stores → List ℕ → List ℕ → List Store
stores_in s line payload = flat_map (λ (row : StoreRow). row_stores row line payload) (take s.count s.stores)

-- at least one byte, within a zone of so many, and within the bytes that are lent or given
pub record IsRowInside (size : ℕ) (s : StoreRow) (line payload : List ℕ) : Type 0 where
  pub what : s.what ≤ 3
  pub some : 0 < s.len
  pub place : s.place + s.len ≤ size
  pub word : s.what ≡ 0 → (s.len ≡ 4) × (take 4 s.bytes ≡ to_le_bytes w32 s.word)
  pub line_end : s.what ≡ 1 → s.from + s.len ≤ length line
  pub payload_end : s.what ≡ 2 → s.from + s.len ≤ length payload
  pub bytes_end : s.what ≡ 3 → s.len ≤ length s.bytes

pub record AreInside (size : ℕ) (s : Stores) (line payload : List ℕ) : Type 0 where
  pub count : s.count ≤ 4
  pub rows : AllByRecursion (λ (row : StoreRow). IsRowInside size row line payload) (take s.count s.stores)

-- a boot has words and bytes of its own alone, in one row
pub record AreOfBoot (s : Stores) : Type 0 where
  pub count : s.count ≤ 1
  pub rows : AllByRecursion (λ (row : StoreRow). (row.what ≡ 0) ⊎ (row.what ≡ 3)) (take s.count s.stores)
