-- The line that a dump begins with: `====`, seconds, `.`, microseconds, `-D` or `-C`, and a newline
-- (fs/pstore/ram.c)
use Rattle.std.specs.Prelude.{ℕ, ◌+◌, ◌-◌, ◌*◌, ◌^◌, Bool, true, false, ◌&&◌, if◌then◌else◌, nat_lt, nat_le, is_some}
use Rattle.std.specs.Prelude.{List, [], ◌∷◌, ◌++◌, length, take, drop, take_while, fold, codes, decimal, bytes_eq}
use Rattle.std.specs.Prelude.{Option, Some, None}
use Rattle.zone_spec.specs.declared.Time.{Time}
use Rattle.zone_spec.specs.declared.TimeLine.{TimeLine}

-- a number with six digits, or more where it needs them
abbrev pub six_digits : ℕ → List ℕ
six_digits n = if nat_lt n 1000000 then drop 1 (decimal (1000000 + n)) else decimal n

-- the line that a dump writes (ramoops_write_kmsg_hdr)
abbrev pub line_text : Time → Bool → List ℕ
line_text time packed =
    codes "====" ++ decimal time.secs ++ codes "." ++ six_digits time.micros
    ++ (if packed then codes "-C" else codes "-D") ++ 10 ∷ []

-- the digits at the front
abbrev pub digits_of : List ℕ → List ℕ
digits_of xs = take_while (λ c. nat_le 48 c && nat_le c 57) xs

-- the number that digits are
abbrev pub number_of : List ℕ → ℕ
number_of digits = fold (λ n c. 10 * n + (c - 48)) 0 digits

-- whether a list begins with another
abbrev pub begins_with : List ℕ → List ℕ → Bool
begins_with front xs = bytes_eq (take (length front) xs) front

-- the line with these digits, whose flag and newline have so many bytes
abbrev pub line_with : List ℕ → List ℕ → Bool → ℕ → TimeLine
line_with secs micros packed ending = record {
  time = record { secs = number_of secs; micros = number_of micros };
  packed = packed;
  len = 5 + length secs + length micros + ending;
}

-- the line with these digits, by what follows them; no flag counts as D
abbrev pub line_ending : List ℕ → List ℕ → List ℕ → Option TimeLine
line_ending secs micros rest =
    if begins_with (10 ∷ []) rest then Some (line_with secs micros false 1)
    else (if begins_with (codes "-D" ++ 10 ∷ []) rest then Some (line_with secs micros false 3)
    else (if begins_with (codes "-C" ++ 10 ∷ []) rest then Some (line_with secs micros true 3)
    else None))

-- the time line that a log begins with: 1 to 19 digits of a number below 2^63, and 1 to 9 digits taken
-- as a whole number. A project's own, stricter than ramoops_read_kmsg_hdr
unfoldable pub read_line : List ℕ → Option TimeLine
read_line log =
    let secs = digits_of (drop 4 log) in
    let micros = digits_of (drop (5 + length secs) log) in
    if begins_with (codes "====") log && nat_le 1 (length secs) && nat_le (length secs) 19 && nat_lt (number_of secs)
    (2 ^ 63)
    && begins_with (codes ".") (drop (4 + length secs) log) && nat_le 1 (length micros) && nat_le (length micros) 9
    then line_ending secs micros (drop (5 + length secs + length micros) log) else None

-- whether a log begins with a time line
abbrev pub has_line : List ℕ → Bool
has_line log = is_some (read_line log)
