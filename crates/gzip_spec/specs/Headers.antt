-- What stands before and behind a member's body (RFC 1952, 2.3): the bytes begin with the member
use Rattle.std.specs.Prelude.{ℕ, ◌+◌, ◌*◌, ◌/◌, ◌%◌, ◌^◌, ◌==◌, not, nat_eq, nat_lt, if◌then◌else◌, List, []}
use Rattle.std.specs.Prelude.{◌∷◌, length, take, drop, slice_index, Result, Ok, Err}
use Rattle.std.specs.List.{starts_with, prefix_len}
use Rattle.gzip_spec.specs.Crc.{crc32}
use Rattle.gzip_spec.specs.declared.GzipFault.{GzipFault}
use Rattle.gzip_spec.specs.declared.GzipFault.TheVariants.{UnknownMethod, ReservedFlag, CutHeader, HeaderCrc}
use Rattle.gzip_spec.specs.declared.GzipFault.TheVariants.{CutTrailer, TextCrc, TextLength}

infixl 10 ◌>>=◌
abbrev pub ◌>>=◌ : {A B : Type 0} → Result A GzipFault → (A → Result B GzipFault) → Result B GzipFault
(Ok x) >>= f = f x
(Err e) >>= f = Err e

-- numbers of two and of four bytes, the least significant byte first
abbrev pub half_at : List ℕ → ℕ → ℕ
half_at bytes at = slice_index bytes at + 256 * slice_index bytes (at + 1)

abbrev pub word_at : List ℕ → ℕ → ℕ
word_at bytes at = half_at bytes at + 65536 * half_at bytes (at + 2)

-- a field ends here, if the file goes on so far
abbrev pub ending : List ℕ → ℕ → Result ℕ GzipFault
ending bytes at = if nat_lt (length bytes) at then Err CutHeader else Ok at

-- where each field ends that begins at a place: its length and so many bytes (FEXTRA); bytes up to a zero (FNAME and
-- FCOMMENT); the low half of the CRC of all bytes before it (FHCRC)
abbrev pub extra_end : List ℕ → ℕ → Result ℕ GzipFault
extra_end bytes at = do
  start ← ending bytes (at + 2)
  ending bytes (start + half_at bytes at)

abbrev pub string_end : List ℕ → ℕ → Result ℕ GzipFault
string_end bytes at = ending bytes (at + prefix_len (λ byte. not (byte == 0)) (drop at bytes) + 1)

abbrev pub crc_end : List ℕ → ℕ → Result ℕ GzipFault
crc_end bytes at = do
  end ← ending bytes (at + 2)
  if half_at bytes at == crc32 (take at bytes) % 65536 then Ok end else Err HeaderCrc

-- a field is there if its flag is set
abbrev pub field : List ℕ → ℕ → (List ℕ → ℕ → Result ℕ GzipFault) → ℕ → Result ℕ GzipFault
field bytes bit end at = if slice_index bytes 3 / 2 ^ bit % 2 == 1 then end bytes at else Ok at

abbrev pub fields_end : List ℕ → Result ℕ GzipFault
fields_end bytes = do
  extra ← field bytes 2 extra_end 10
  name ← field bytes 3 string_end extra
  comment ← field bytes 4 string_end name
  field bytes 1 crc_end comment

-- where the header ends; `other` is the fault of bytes that begin no member
unfoldable pub header_end : GzipFault → List ℕ → Result ℕ GzipFault
header_end other bytes =
    if not (starts_with nat_eq bytes (0x1f ∷ 0x8b ∷ [])) then Err other
    else (if nat_lt (length bytes) 10 then Err CutHeader
    else (if not (slice_index bytes 2 == 8) then Err UnknownMethod
    else (if nat_lt 31 (slice_index bytes 3) then Err ReservedFlag
    else fields_end bytes)))

-- where a member ends whose body ends at a place: the CRC of the text and its length follow, four bytes each
unfoldable pub member_end : List ℕ → ℕ → List ℕ → Result ℕ GzipFault
member_end bytes at text =
    if nat_lt (length bytes) (at + 8) then Err CutTrailer
    else (if not (word_at bytes at == crc32 text) then Err TextCrc
    else (if not (word_at bytes (at + 4) == length text % 2 ^ 32) then Err TextLength
    else Ok (at + 8)))
