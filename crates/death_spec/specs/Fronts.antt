-- What others write before a line of the kernel: `Nov 29 22:45:01 host kernel: `, `[2026-11-29 22:45:01] `, a colour
use Rattle.std.specs.Prelude.{ℕ, zero, suc, ◌+◌, ◌==◌, Bool, ◌&&◌, ◌||◌, nat_eq, nat_le, nat_lt, if◌then◌else◌, List}
use Rattle.std.specs.Prelude.{length, take, drop, slice_index, codes}
use Rattle.std.specs.List.{starts_with}
use Rattle.death_spec.specs.declared.Landmark.{Landmark}
use Rattle.death_spec.specs.declared.Landmark.TheVariants.{Clock, Kernel}
use Rattle.death_spec.specs.declared.Class.TheVariants.{Blank, Word, Colonless, Bracketed, Parameter}
use Rattle.death_spec.specs.Marks.{run, is_blank, is_digit}

-- ---- landmarks

-- `22:45` at a place
abbrev pub is_clock : List ℕ → ℕ → Bool
is_clock text at =
    is_digit (slice_index text at) && is_digit (slice_index text (at + 1)) && slice_index text (at + 2) == 58
    && is_digit (slice_index text (at + 3)) && is_digit (slice_index text (at + 4))

-- `22:45:01.123`, or `2026-11-29T22:45:01+01:00`
abbrev pub begins_with_clock : List ℕ → Bool
begins_with_clock text =
    is_clock text 0 || (nat_le 16 (run Word text) && slice_index text 10 == 84 && is_clock text 11)

-- how long a landmark at the front is; 0 if none is there
abbrev pub landmark_len : Landmark → List ℕ → ℕ
landmark_len Clock text = if begins_with_clock text then run Word text else 0
landmark_len Kernel text = if starts_with nat_eq text (codes "kernel:") then 7 else 0

-- behind a word without a colon and the blanks after it; 0 if no blank follows the word
abbrev pub past_word : List ℕ → ℕ
past_word text =
    let word = run Colonless text in
    let blanks = run Blank (drop word text) in if nat_lt 0 blanks then word + blanks else 0

-- where a landmark ends that is one of the n words from a place on; 0 if none is
unfoldable pub landmark_end : Landmark → ℕ → List ℕ → ℕ → ℕ
landmark_end landmark zero text at = 0
landmark_end landmark (suc n) text at =
    let len = landmark_len landmark (drop at text) in
    let word = past_word (drop at text) in
    if nat_lt 0 len then at + len else if word == 0 then 0 else landmark_end landmark n text (at + word)

-- ---- pieces

-- a terminal's colour: escape, `[`, numbers, and one byte more
abbrev pub escape_len : List ℕ → ℕ
escape_len text =
    let end = 2 + run Parameter (drop 2 text) in
    if slice_index text 1 == 91 && nat_lt end (length text) then end + 1 else 0

-- a bracket with a time in it: `[2026-11-29 22:45:01]`, `[Sun Nov 29 22:45:01 2026]`
abbrev pub bracketed_len : List ℕ → ℕ
bracketed_len text =
    let close = run Bracketed text in
    if nat_lt 0 close && nat_lt close (length text) && nat_lt 0 (landmark_end Clock 5 (take close text) 1)
    then close + 1 else 0

-- a date without brackets begins with a digit, or with a word of three letters such as `Nov`
abbrev pub begins_date : List ℕ → Bool
begins_date text =
    is_digit (slice_index text 0)
    || (nat_le 65 (slice_index text 0) && nat_le (slice_index text 0) 90 && is_blank (slice_index text 3))

-- `Nov 29 22:45:01`, `2026-11-29 22:45:01`, `Sun 2026-11-29 22:45:01`
abbrev pub date_len : List ℕ → ℕ
date_len text = if begins_date text then landmark_end Clock 4 text 0 else 0

-- `host kernel:`, before the stamp also `UTC host kernel:`
abbrev pub host_len : Bool → List ℕ → ℕ
host_len is_first text = landmark_end Kernel (if is_first then 3 else 2) text 0

abbrev pub worded_len : Bool → List ℕ → ℕ
worded_len is_first text =
    let host = host_len is_first text in
    if nat_lt 0 host then host else if is_first then date_len text else 0

-- how long a piece at the front is that is none of the kernel's; 0 if it begins with none. Dates are none behind the
-- stamp
unfoldable pub piece_len : Bool → List ℕ → ℕ
piece_len is_first text =
    let b = slice_index text 0 in
    if is_blank b then run Blank text
    else if b == 27 then escape_len text
    else if b == 13 then 1
    else if b == 60 then 0
    else if b == 91 then (if is_first then bracketed_len text else 0)
    else worded_len is_first text

-- behind at most n pieces from a place on
unfoldable pub past_pieces : Bool → ℕ → List ℕ → ℕ → ℕ
past_pieces is_first zero text at = at
past_pieces is_first (suc n) text at =
    let len = piece_len is_first (drop at text) in if len == 0 then at else past_pieces is_first n text (at + len)
