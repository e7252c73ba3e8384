-- What a line of a log says, behind all that others wrote before it:
-- `Nov 30 03:10:00 host kernel: [    0.000000] Linux version 6.12.0`
use Rattle.std.specs.Prelude.{ℕ, zero, suc, ◌+◌, ◌==◌, Bool, not, ◌&&◌, ◌||◌, nat_eq, nat_le, nat_lt, if◌then◌else◌}
use Rattle.std.specs.Prelude.{List, length, drop, slice_index, Option, Some, None}
use Rattle.std.specs.List.{starts_with, prefix_len}
use Rattle.text_log_spec.specs.declared.Class.{Class}
use Rattle.text_log_spec.specs.declared.Class.TheVariants.{Line, Blank, Word, Bracketed, Angled, Parameter}
use Rattle.text_log_spec.specs.declared.Head.{Head}
use Rattle.text_log_spec.specs.declared.Head.TheVariants.{Booting, Version}
use Rattle.text_log_spec.specs.declared.TheConstants.{BOOTING, VERSION, KERNEL}

abbrev pub is_blank : ℕ → Bool
is_blank b = b == 32 || b == 9 || b == 13

abbrev pub is_in : Class → ℕ → Bool
is_in Line b = not (b == 10)
is_in Blank b = is_blank b
is_in Word b = not (is_blank b)
is_in Bracketed b = not (b == 93)
is_in Angled b = not (b == 62)
is_in Parameter b = nat_le 32 b && nat_le b 63

-- how many bytes at the front are of a class
abbrev pub run : Class → List ℕ → ℕ
run class text = prefix_len (is_in class) text

-- a bracket with the byte that closes it; 0 if none does
abbrev pub bracket_len : Class → List ℕ → ℕ
bracket_len class text = if nat_lt (run class text) (length text) then run class text + 1 else 0

-- a terminal's colour: escape, `[`, digits and semicolons, one byte more
abbrev pub escape_len : List ℕ → ℕ
escape_len text = if slice_index text 1 == 91 then 3 + run Parameter (drop 2 text) else 0

-- how long a piece at the front is that is none of what the line says: a blank, a colour, a bracket with a stamp, a
-- time or a caller in it, a level such as `<6>`
unfoldable pub piece_len : List ℕ → ℕ
piece_len text =
    if is_blank (slice_index text 0) then 1
    else (if slice_index text 0 == 27 then escape_len text
    else (if slice_index text 0 == 91 then bracket_len Bracketed text
    else (if slice_index text 0 == 60 then bracket_len Angled text else 0)))

-- behind at most n such pieces
unfoldable pub behind_pieces : ℕ → List ℕ → List ℕ
behind_pieces zero text = text
behind_pieces (suc n) text =
    if piece_len text == 0 then text else behind_pieces n (drop (piece_len text) text)

abbrev pub plain : List ℕ → List ℕ
plain text = behind_pieces (length text) text

abbrev pub next_word : List ℕ → List ℕ
next_word text =
    let blanks = drop (run Word text) text in drop (run Blank blanks) blanks

-- behind `kernel:`, if it is one of the first n words; else `whole`
unfoldable pub behind_kernel : ℕ → List ℕ → List ℕ → List ℕ
behind_kernel zero whole text = whole
behind_kernel (suc n) whole text =
    if starts_with nat_eq text KERNEL.now then drop (length KERNEL.now) text else behind_kernel n whole (next_word text)

-- syslog and the journal write up to four words before `kernel:`: a time in one to three words, and the host's name
abbrev pub said : List ℕ → List ℕ
said line = let text = plain line in plain (behind_kernel 5 text text)

-- the line by which a boot begins
abbrev pub head_in : List ℕ → Option Head
head_in text =
    if starts_with nat_eq text BOOTING.now then Some Booting
    else (if starts_with nat_eq text VERSION.now then Some Version else None)

abbrev pub head_of : List ℕ → Option Head
head_of line = head_in (said line)
