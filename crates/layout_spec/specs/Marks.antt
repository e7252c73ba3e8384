-- Where a header seems to stand, and whether a zone's header reads as its own
use Rattle.std.specs.Prelude.{ℕ, ◌+◌, ◌*◌, ◌-◌, ◌/◌, Bool, true, false, ◌&&◌, ◌||◌, not, if◌then◌else◌, nat_le, nat_lt}
use Rattle.std.specs.Prelude.{◌==◌, List, [], ◌∷◌, map, count_by, length, min, slice_index}
use Rattle.std.specs.List.{range_with_len}
use Rattle.zone_spec.specs.declared.Kind.{Kind}
use Rattle.zone_spec.specs.declared.Kind.TheVariants.{Dump, Ftrace}
use Rattle.zone_spec.specs.declared.params.ByteOrder.{ByteOrder}
use Rattle.zone_spec.specs.declared.params.ByteOrder.TheVariants.{Little, Big}
use Rattle.zone_spec.specs.declared.State.{State}
use Rattle.zone_spec.specs.declared.State.TheVariants.{Empty, Found}
use Rattle.zone_spec.specs.declared.Zone.{Zone}
use Rattle.zone_spec.specs.declared.Words.{Words}
use Rattle.zone_spec.specs.Numbers.{header_len}
use Rattle.zone_spec.specs.Parts.{Header}
use Rattle.zone_spec.specs.PartReadings.{PartReading, part_reading, words_read}
use Rattle.zone_spec.specs.Reading.{state_of}
use Rattle.zone_spec.specs.TimeLines.{has_line}
use Rattle.zone_spec.specs.PartStates.{zone_bytes}

abbrev pub flag : Bool → ℕ
flag b = if b then 1 else 0

-- the byte of weight 256^i of the word that stands here
abbrev pub word_byte : ByteOrder → List ℕ → ℕ → ℕ → ℕ
word_byte Little image at i = slice_index image (at + i)
word_byte Big image at i = slice_index image (at + (3 - i))

-- the highest byte of start or of size is 0, as in every zone of at most 16 MiB
abbrev pub has_zero : ByteOrder → List ℕ → ℕ → Bool
has_zero order image at = (word_byte order image (at + 4) 3 == 0) || (word_byte order image (at + 8) 3 == 0)

-- how many of the signature's four bytes stand here: `DBGC` of a little-endian machine, and `CGBD` of a big-endian one
abbrev pub signature_bytes : ByteOrder → List ℕ → ℕ → ℕ
signature_bytes order image at =
    flag (word_byte order image at 0 == 68) + flag (word_byte order image at 1 == 66)
    + flag (word_byte order image at 2 == 71) + flag (word_byte order image at 3 == 67)

-- a place where a header of this order of bytes seems to stand: two bytes of the signature at least, and a zero. So
-- text is no mark, and a damaged signature is one
unfoldable pub is_mark_in : ByteOrder → List ℕ → ℕ → Bool
is_mark_in order image at = nat_le 2 (signature_bytes order image at) && has_zero order image at

-- the same of either order
unfoldable pub is_mark : List ℕ → ℕ → Bool
is_mark image at = is_mark_in Little image at || is_mark_in Big image at

-- the same of an ftrace zone, whose tag is in the signature: its highest byte is `C`, and the next is not that of a tag
-- below 0x20000
unfoldable pub is_tagged_mark_in : ByteOrder → List ℕ → ℕ → Bool
is_tagged_mark_in order image at =
    (word_byte order image at 3 == 67) && not (word_byte order image at 2 / 2 == 35) && has_zero order image at

unfoldable pub is_tagged_mark : List ℕ → ℕ → Bool
is_tagged_mark image at = is_tagged_mark_in Little image at || is_tagged_mark_in Big image at

abbrev pub seems_to_begin : Kind → List ℕ → ℕ → Bool
seems_to_begin Ftrace image at = is_tagged_mark image at
seems_to_begin other image at = is_mark image at

-- the halves of the even places at which a whole header can stand
abbrev pub halves : List ℕ → List ℕ
halves image = range_with_len 0 ((length image - 10) / 2)

-- how many marks the image has, at even places with a whole header behind them
unfoldable pub marks : List ℕ → ℕ
marks image = count_by (λ i. is_mark image (2 * i)) (halves image)

-- the order of bytes of the first of these places that is a mark, and little-endian where none is
unfoldable pub first_order : List ℕ → List ℕ → ByteOrder
first_order image [] = Little
first_order image (i ∷ rest) =
    if is_mark_in Little image (2 * i) then Little
    else if is_mark_in Big image (2 * i) then Big else first_order image rest

-- the order of bytes that the image shows, by its first mark: all zones of a region are written by one machine
unfoldable pub byte_order_in : List ℕ → ByteOrder
byte_order_in image = first_order image (halves image)

-- the reading of a zone's header, and its words
unfoldable pub header_of : List ℕ → Zone → PartReading
header_of image z = part_reading z (zone_bytes z image) Header

unfoldable pub zone_words : List ℕ → Zone → Words
zone_words image z = words_read z (zone_bytes z image)

abbrev pub state_in : List ℕ → Zone → State
state_in image z = state_of z (zone_words image z)

abbrev pub is_ring_or_empty : State → Bool
is_ring_or_empty Empty = true
is_ring_or_empty Found = true
is_ring_or_empty other = false

abbrev pub is_found : State → Bool
is_found Found = true
is_found other = false

-- a header seems to stand here, and within half the parity it can be read
abbrev pub is_readable : List ℕ → Zone → Bool
is_readable image z = seems_to_begin z.name.kind image z.at && ((header_of image z).bad == 0)

-- it reads as the zone's own, with a ring or with nothing
unfoldable pub fits : List ℕ → Zone → Bool
fits image z = is_readable image z && is_ring_or_empty (state_in image z)

abbrev pub has_log : List ℕ → Zone → Bool
has_log image z = fits image z && is_found (state_in image z)

-- the place of a ring's byte i, in the order of its log
abbrev pub log_place : Words → ℕ → ℕ
log_place w i = if nat_lt (w.start + i) w.size then w.start + i else w.start + i - w.size

-- the first 40 bytes of the log as they stand: no time line is longer
unfoldable pub log_front : List ℕ → Zone → Words → List ℕ
log_front image z w = map (λ i. slice_index image (z.at + header_len + log_place w i)) (range_with_len 0 (min 40 w.size))

-- a log that is not as its kind writes it: a dump without a time line, a console or pmsg that begins with one
abbrev pub is_odd_log : Kind → Bool → Bool
is_odd_log Dump line = not line
is_odd_log Ftrace line = false
is_odd_log other line = line

unfoldable pub is_odd : List ℕ → Zone → Bool
is_odd image z = has_log image z && is_odd_log z.name.kind (has_line (log_front image z (zone_words image z)))
