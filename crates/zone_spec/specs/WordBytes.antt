-- The bytes of a 32-bit word, by the order in which the machine stores them
use Rattle.std.specs.Prelude.{ℕ, List}
use Rattle.std.specs.Int.{from_le_bytes, to_le_bytes, swap_bytes}
use Rattle.std.proofs.Common.{w32}
use Rattle.zone_spec.specs.declared.params.ByteOrder.{ByteOrder}
use Rattle.zone_spec.specs.declared.params.ByteOrder.TheVariants.{Little, Big}

-- the number that a little-endian machine finds where one of this order stored the number n
abbrev pub turned : ByteOrder → ℕ → ℕ
turned Little n = n
turned Big n = swap_bytes w32 n

-- the four bytes of a word, in the order in which they stand
abbrev pub word_bytes : ByteOrder → ℕ → List ℕ
word_bytes order n = to_le_bytes w32 (turned order n)

-- the word that four bytes are
abbrev pub word_of : ByteOrder → List ℕ → ℕ
word_of order bytes = turned order (from_le_bytes w32 bytes)
