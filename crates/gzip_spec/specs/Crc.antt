-- CRC-32, bit by bit (RFC 1952, 8): the low bit goes first
use Rattle.std.specs.Prelude.{ℕ, zero, suc, ◌*◌, ◌/◌, ◌%◌, List, [], ◌∷◌, bit_xor}

-- so many bits leave at the low end; each one that is set takes the polynomial from the rest
unfoldable pub shifted : ℕ → ℕ → ℕ
shifted zero crc = crc
shifted (suc n) crc = shifted n (bit_xor (crc / 2) (0xedb88320 * (crc % 2)))

unfoldable pub crc_from : ℕ → List ℕ → ℕ
crc_from crc [] = crc
crc_from crc (byte ∷ bytes) = crc_from (shifted 8 (bit_xor crc byte)) bytes

-- all bits are inverted before and after
unfoldable pub crc32 : List ℕ → ℕ
crc32 bytes = bit_xor (crc_from 0xffffffff bytes) 0xffffffff
