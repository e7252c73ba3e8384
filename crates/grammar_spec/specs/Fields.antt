-- The fields of a script line, each as a text of bytes without a space
use Rattle.std.specs.Prelude.{ℕ, ◌^◌, ◌==◌, Bool, true, false, ◌&&◌, not, if◌then◌else◌, nat_lt, nat_le, List, []}
use Rattle.std.specs.Prelude.{length, take, drop, codes, decimal, bytes_eq, Option, Some, None, Result, Ok, Err}
use Rattle.std.specs.List.{list_all}
use Rattle.std.specs.Str.Parse.{digits_value}
use Rattle.hex.specs.Hex.{decode_of}
use Rattle.hex.specs.declared.error.FromHexError.{FromHexError}
use Rattle.zone_spec.specs.declared.ZoneName.{ZoneName}
use Rattle.zone_spec.specs.declared.Kind.{Kind}
use Rattle.zone_spec.specs.declared.Kind.TheVariants.{Dump, Console, Ftrace, Pmsg}

abbrev pub Text : Type 0
Text = List ℕ

-- x ← a goes on with the value of a, and is None where a is
infixl 10 ◌>>=◌
abbrev pub ◌>>=◌ : {A B : Type 0} → Option A → (A → Option B) → Option B
Some x >>= f = f x
None >>= f = None

abbrev pub begins_with : Text → Text → Bool
begins_with front text = bytes_eq (take (length front) text) front

-- the number below a limit whose decimal text this is: no leading zeros
unfoldable pub number_below : ℕ → Text → Option ℕ
number_below limit text =
    let n = digits_value 10 text in
    if nat_lt n limit && bytes_eq text (decimal n) then Some n else None

-- N, K, PLACE
abbrev pub number : Text → Option ℕ
number text = number_below (2 ^ 32) text

-- MASK: 1 to 255
abbrev pub mask : Text → Option ℕ
mask text = do
  n ← number_below 256 text
  if n == 0 then None else Some n

abbrev pub secs : Text → Option ℕ
secs text = number_below (2 ^ 63) text

abbrev pub micros : Text → Option ℕ
micros text = number_below 1000000 text

abbrev pub nanos : Text → Option ℕ
nanos text = number_below 1000000000 text

-- the zone of a kind at the index N
unfoldable pub zone_at : Kind → Text → Option ZoneName
zone_at kind text = do
  n ← number text
  Some (record { kind = kind; index = n })

-- RING: `console`, `pmsg`, `ftrace-N`
unfoldable pub ring : Text → Option ZoneName
ring text =
    if bytes_eq text (codes "console") then Some (record { kind = Console; index = 0 })
    else if bytes_eq text (codes "pmsg") then Some (record { kind = Pmsg; index = 0 })
    else if begins_with (codes "ftrace-") text then zone_at Ftrace (drop 7 text)
    else None

-- ZONE: a RING, or `dump-N`
unfoldable pub zone : Text → Option ZoneName
zone text =
    if begins_with (codes "dump-") text then zone_at Dump (drop 5 text)
    else ring text

-- HEX: `-` for no bytes, or an even and positive number of hexadecimal digits of either case
abbrev pub decoded : Result (List ℕ) FromHexError → Option (List ℕ)
decoded (Ok bytes) = Some bytes
decoded (Err e) = None

unfoldable pub payload : Text → Option (List ℕ)
payload text =
    if bytes_eq text (codes "-") then Some []
    else if length text == 0 then None
    else decoded (decode_of text)

-- a text without a newline
abbrev pub is_message : List ℕ → Bool
is_message bytes = list_all (λ b. not (b == 0x0a)) bytes

-- a HEX of which no byte is 0a
unfoldable pub message : Text → Option (List ℕ)
message text = do
  bytes ← payload text
  if is_message bytes then Some bytes else None

-- a HEX of at least one byte
unfoldable pub some_bytes : Text → Option (List ℕ)
some_bytes text = do
  bytes ← payload text
  if length bytes == 0 then None else Some bytes

-- FLAG: `D` or `C`, true for `C`
unfoldable pub flag : Text → Option Bool
flag text =
    if bytes_eq text (codes "D") then Some false
    else if bytes_eq text (codes "C") then Some true
    else None

-- REASON, by its number
unfoldable pub reason : Text → Option ℕ
reason text =
    if bytes_eq text (codes "Panic") then Some 1
    else if bytes_eq text (codes "Oops") then Some 2
    else if bytes_eq text (codes "Emergency") then Some 3
    else if bytes_eq text (codes "Shutdown") then Some 4
    else None

-- NAME: one or more bytes from 21 to 7e hexadecimal
abbrev pub is_name : Text → Bool
is_name text = nat_lt 0 (length text) && list_all (λ c. nat_le 0x21 c && nat_le c 0x7e) text

unfoldable pub name : Text → Option Text
name text = if is_name text then Some text else None
