-- A word and its four bytes, in either order
use Rattle.std.specs.Prelude.{◌≡◌, ℕ, ◌^◌, ◌<◌, List, [], ◌∷◌, length, slice_index}
use Rattle.std.specs.Int.{to_be_bytes, from_be_bytes}
use Rattle.std.proofs.Common.{w32}
use Rattle.zone_spec.specs.declared.params.ByteOrder.{ByteOrder}
use Rattle.zone_spec.specs.declared.params.ByteOrder.TheVariants.{Little, Big}
use Rattle.zone_spec.specs.WordBytes.{word_bytes, word_of}

abbrev pub WordIsItsBytes : Type 0
WordIsItsBytes = (order : ByteOrder) (n : ℕ) → n < 2 ^ 32 → word_of order (word_bytes order n) ≡ n

abbrev pub BytesAreTheirWord : Type 0
BytesAreTheirWord = (order : ByteOrder) (bytes : List ℕ) → length bytes ≡ 4 → ((i : ℕ) → slice_index bytes i < 256)
    → word_bytes order (word_of order bytes) ≡ bytes

-- with the first bytes of a big-endian region
pub record BigIsHighestFirst : Type 0 where
  pub stored : (n : ℕ) → word_bytes Big n ≡ to_be_bytes w32 n
  pub read : (bytes : List ℕ) → length bytes ≡ 4 → ((i : ℕ) → slice_index bytes i < 256)
      → word_of Big bytes ≡ from_be_bytes w32 bytes
  pub signature : word_bytes Big 0x43474244 ≡ 0x43 ∷ 0x47 ∷ 0x42 ∷ 0x44 ∷ []
  pub little : word_bytes Little 0x43474244 ≡ 0x44 ∷ 0x42 ∷ 0x47 ∷ 0x43 ∷ []
