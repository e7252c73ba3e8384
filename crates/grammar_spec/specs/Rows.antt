-- The lines of the table, each by its word and the fields behind it
use Rattle.std.specs.Prelude.{if◌then◌else◌, List, [], ◌∷◌, codes, bytes_eq, Option, Some, None}
use Rattle.grammar_spec.specs.declared.line.Line.{Line}
use Rattle.grammar_spec.specs.declared.line.Line.TheVariants.{Write, Dump, BeginWrite, BeginErase, BeginDump, Step}
use Rattle.grammar_spec.specs.declared.line.Line.TheVariants.{Finish, Stop, Flip, Boot, BootPart, List as ListLine}
use Rattle.grammar_spec.specs.declared.line.Line.TheVariants.{Extract, Erase, KDump, CutAfter, KMsg, Crash, Reserve}
use Rattle.grammar_spec.specs.declared.line.Line.TheVariants.{StoreNext}
use Rattle.grammar_spec.specs.Fields.{Text, ◌>>=◌, number, mask, secs, micros, nanos, zone, payload, flag, reason}
use Rattle.grammar_spec.specs.Groups.{two, three, five, ring_hex, time_flag_hex, one_zone, one_number, one_name}
use Rattle.grammar_spec.specs.Groups.{one_message, one_some_bytes}

-- `step ZONE K`
unfoldable pub step_line : List Text → Option Line
step_line fields = do
  f ← two fields
  z ← zone f.0
  k ← number f.1
  Some (Step z k)

-- `flip PLACE MASK`
unfoldable pub flip_line : List Text → Option Line
flip_line fields = do
  f ← two fields
  place ← number f.0
  m ← mask f.1
  Some (Flip place m)

-- `kdump SECS NANOS FLAG REASON HEX`
unfoldable pub kdump_line : List Text → Option Line
kdump_line fields = do
  f ← five fields
  s ← secs f.0
  n ← nanos f.1
  packed ← flag f.2
  r ← reason f.3
  bytes ← payload f.4
  Some (KDump s n packed r bytes)

-- `crash REASON SECS MICROS`
unfoldable pub crash_line : List Text → Option Line
crash_line fields = do
  f ← three fields
  r ← reason f.0
  s ← secs f.1
  m ← micros f.2
  Some (Crash r (record { secs = s; micros = m }))

-- `store T K`
unfoldable pub store_line : List Text → Option Line
store_line fields = do
  f ← two fields
  ticket ← number f.0
  k ← number f.1
  Some (StoreNext ticket k)

-- the line of what was read
abbrev pub line1 : {A : Type 0} → (A → Line) → Option A → Option Line
line1 line (Some a) = Some (line a)
line1 line None = None

abbrev pub line2 : {A B : Type 0} → (A → B → Line) → Option (A × B) → Option Line
line2 line (Some (a, b)) = Some (line a b)
line2 line None = None

abbrev pub line3 : {A B C : Type 0} → (A → B → C → Line) → Option (A × B × C) → Option Line
line3 line (Some (a, b, c)) = Some (line a b c)
line3 line None = None

-- what stands behind `begin`
unfoldable pub begin_row : Text → List Text → Option Line
begin_row word fields =
    if bytes_eq word (codes "write") then line2 BeginWrite (ring_hex fields)
    else if bytes_eq word (codes "erase") then line1 BeginErase (one_zone fields)
    else if bytes_eq word (codes "dump") then line3 BeginDump (time_flag_hex fields)
    else None

unfoldable pub begin_line : List Text → Option Line
begin_line (word ∷ f ∷ fields) = begin_row word (f ∷ fields)
begin_line other = None

-- a word and the fields behind it, of which none has bytes
unfoldable pub plain_row : Text → List Text → Option Line
plain_row word fields =
    if bytes_eq word (codes "step") then step_line fields
    else if bytes_eq word (codes "finish") then line1 Finish (one_zone fields)
    else if bytes_eq word (codes "flip") then flip_line fields
    else if bytes_eq word (codes "boot") then line1 BootPart (one_number fields)
    else if bytes_eq word (codes "cut") then line1 CutAfter (one_number fields)
    else if bytes_eq word (codes "crash") then crash_line fields
    else if bytes_eq word (codes "store") then store_line fields
    else None

-- a word and the fields behind it
unfoldable pub row : Text → List Text → Option Line
row word fields =
    if bytes_eq word (codes "write") then line2 Write (ring_hex fields)
    else if bytes_eq word (codes "dump") then line3 Dump (time_flag_hex fields)
    else if bytes_eq word (codes "begin") then begin_line fields
    else if bytes_eq word (codes "extract") then line1 Extract (one_name fields)
    else if bytes_eq word (codes "erase") then line1 Erase (one_name fields)
    else if bytes_eq word (codes "kdump") then kdump_line fields
    else if bytes_eq word (codes "kmsg") then line1 KMsg (one_message fields)
    else if bytes_eq word (codes "reserve") then line1 Reserve (one_some_bytes fields)
    else plain_row word fields

-- a word alone
unfoldable pub lone_word : Text → Option Line
lone_word word =
    if bytes_eq word (codes "stop") then Some Stop
    else if bytes_eq word (codes "boot") then Some Boot
    else if bytes_eq word (codes "list") then Some ListLine
    else None

abbrev pub line_of_fields : List Text → Option Line
line_of_fields [] = None
line_of_fields (word ∷ []) = lone_word word
line_of_fields (word ∷ f ∷ fields) = row word (f ∷ fields)
