-- Fields in groups: so many of them, each of its form
use Rattle.std.specs.Prelude.{ℕ, Bool, List, [], ◌∷◌, Option, Some, None}
use Rattle.zone_spec.specs.declared.ZoneName.{ZoneName}
use Rattle.zone_spec.specs.declared.Time.{Time}
use Rattle.grammar_spec.specs.Fields.{Text, ◌>>=◌, number, secs, micros, ring, zone, payload, message, some_bytes, flag}
use Rattle.grammar_spec.specs.Fields.{name}

-- exactly so many fields
abbrev pub one : List Text → Option Text
one (a ∷ []) = Some a
one other = None

abbrev pub two : List Text → Option (Text × Text)
two (a ∷ b ∷ []) = Some (a, b)
two other = None

abbrev pub three : List Text → Option (Text × Text × Text)
three (a ∷ b ∷ c ∷ []) = Some (a, b, c)
three other = None

abbrev pub four : List Text → Option (Text × Text × Text × Text)
four (a ∷ b ∷ c ∷ d ∷ []) = Some (a, b, c, d)
four other = None

abbrev pub five : List Text → Option (Text × Text × Text × Text × Text)
five (a ∷ b ∷ c ∷ d ∷ e ∷ []) = Some (a, b, c, d, e)
five other = None

-- RING HEX
unfoldable pub ring_hex : List Text → Option (ZoneName × List ℕ)
ring_hex fields = do
  f ← two fields
  z ← ring f.0
  bytes ← payload f.1
  Some (z, bytes)

-- SECS MICROS FLAG HEX
unfoldable pub time_flag_hex : List Text → Option (Time × Bool × List ℕ)
time_flag_hex fields = do
  f ← four fields
  s ← secs f.0
  m ← micros f.1
  packed ← flag f.2
  bytes ← payload f.3
  Some (record { secs = s; micros = m }, packed, bytes)

-- a ZONE, a number, a NAME alone
unfoldable pub one_zone : List Text → Option ZoneName
one_zone fields = do
  f ← one fields
  zone f

unfoldable pub one_number : List Text → Option ℕ
one_number fields = do
  f ← one fields
  number f

unfoldable pub one_name : List Text → Option Text
one_name fields = do
  f ← one fields
  name f

-- a HEX alone, without a newline or with at least one byte
unfoldable pub one_message : List Text → Option (List ℕ)
one_message fields = do
  f ← one fields
  message f

unfoldable pub one_some_bytes : List Text → Option (List ℕ)
one_some_bytes fields = do
  f ← one fields
  some_bytes f
