-- The entries of an ftrace log as the kernel shows them (fs/pstore/inode.c, pstore_ftrace_seq_show):
-- `CPU:0 ts:4711 ffffffff81001000  ffffffff81002000  do_work <- run_work+0x1f`
use Rattle.std.specs.Prelude.{ℕ, ◌+◌, ◌-◌, ◌/◌, ◌%◌, ◌^◌, ◌==◌, nat_lt, if◌then◌else◌, min, List, [], ◌∷◌, ◌++◌, drop}
use Rattle.std.specs.Prelude.{flat_map, slice_range, codes, decimal, Option, Some, None}
use Rattle.std.specs.Int.{from_le_bytes}
use Rattle.std.specs.List.{prefix_len}
use Rattle.std.proofs.Common.{w64}
use Rattle.zone_spec.specs.Ftrace.{entries, entry_time}
use Rattle.symbol_spec.specs.declared.Symbol.{Symbol}
use Rattle.symbol_spec.specs.Maps.{name_at, module_at}
use Rattle.symbol_spec.specs.Shifts.{function_above}

-- ---- numbers

-- the hexadecimal digit of a number that counts so much
abbrev pub digit : ℕ → ℕ → ℕ
digit n unit = if nat_lt (n / unit % 16) 10 then 48 + n / unit % 16 else 87 + n / unit % 16

unfoldable pub sixteen : ℕ → List ℕ
sixteen n =
    digit n (2 ^ 60) ∷ digit n (2 ^ 56) ∷ digit n (2 ^ 52) ∷ digit n (2 ^ 48) ∷ digit n (2 ^ 44) ∷ digit n (2 ^ 40)
    ∷ digit n (2 ^ 36) ∷ digit n (2 ^ 32) ∷ digit n (2 ^ 28) ∷ digit n (2 ^ 24) ∷ digit n (2 ^ 20) ∷ digit n (2 ^ 16)
    ∷ digit n (2 ^ 12) ∷ digit n (2 ^ 8) ∷ digit n (2 ^ 4) ∷ digit n 1 ∷ []

-- a number of 64 bits in hexadecimal, with at least so many digits
unfoldable pub hexadecimal : ℕ → ℕ → List ℕ
hexadecimal least n = drop (min (16 - least) (prefix_len (λ d. d == 48) (sixteen n))) (sixteen n)

-- ---- functions

abbrev pub bare_text : List ℕ → ℕ → Option Symbol → List ℕ
bare_text map address None = codes "0x" ++ hexadecimal 1 address
bare_text map address (Some s) = name_at map s.name

abbrev pub spaced : List ℕ → List ℕ
spaced [] = []
spaced (b ∷ bs) = 32 ∷ b ∷ bs

-- the module that the function is of, behind a space
abbrev pub module_text : List ℕ → Option Symbol → List ℕ
module_text map None = []
module_text map (Some s) = spaced (module_at map s.name)

-- the function of an address (`%ps`) of a kernel that runs so far above the map; without one the kernel shows the
-- address
unfoldable pub function_text : List ℕ → (shift address : ℕ) → List ℕ
function_text map shift address =
    bare_text map address (function_above map shift address) ++ module_text map (function_above map shift address)

abbrev pub offset_text : ℕ → Option Symbol → List ℕ
offset_text address None = []
offset_text address (Some s) = codes "+0x" ++ hexadecimal 1 (address - s.address)

-- also how far behind its beginning the address is (`%pS`, without the function's size)
unfoldable pub place_text : List ℕ → (shift address : ℕ) → List ℕ
place_text map shift address =
    bare_text map address (function_above map shift address)
    ++ offset_text (address - shift) (function_above map shift address)
    ++ module_text map (function_above map shift address)

-- ---- entries

abbrev pub word_of : List ℕ → ℕ → ℕ
word_of entry at = from_le_bytes w64 (slice_range entry at (at + 8))

-- of these words, and this time
unfoldable pub head_by : ℕ → ℕ → ℕ → ℕ → List ℕ
head_by address parent processor time =
    codes "CPU:" ++ decimal processor ++ codes " ts:" ++ decimal time ++ codes " " ++ hexadecimal 8 address
    ++ codes "  " ++ hexadecimal 8 parent ++ codes "  "

abbrev pub line_by : List ℕ → ℕ → ℕ → ℕ → ℕ → ℕ → List ℕ
line_by map shift address parent processor time =
    head_by address parent processor time ++ function_text map shift address ++ codes " <- "
    ++ place_text map shift parent ++ 10 ∷ []

abbrev pub line_text : List ℕ → ℕ → List ℕ → List ℕ
line_text map shift entry =
    line_by map shift (word_of entry 0) (word_of entry 8) (word_of entry 16 % 256) (entry_time entry)

-- the lines of a log's entries, with the functions of a map, above which the kernel ran so far
unfoldable pub trace_text : List ℕ → ℕ → List ℕ → List ℕ
trace_text map shift log = flat_map (line_text map shift) (entries log)
