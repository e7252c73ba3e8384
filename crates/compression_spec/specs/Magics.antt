-- By what a file is compressed, as its first bytes tell
use Rattle.std.specs.Prelude.{ℕ, ◌+◌, ◌*◌, ◌/◌, ◌%◌, ◌==◌, Bool, ◌&&◌, nat_eq, if◌then◌else◌, List, [], ◌∷◌, map}
use Rattle.std.specs.Prelude.{slice_index, Option, Some, None}
use Rattle.std.specs.List.{starts_with}
use Rattle.compression_spec.specs.declared.Compression.{Compression}
use Rattle.compression_spec.specs.declared.Compression.TheVariants.{Zlib}
use Rattle.compression_spec.specs.declared.TheConstants.{MAGICS}

-- zlib (RFC 1950, 2.2): DEFLATE with a window of 32 KiB, two bytes that 31 divides, no preset dictionary. These are
-- 78 01, 78 5e, 78 9c and 78 da
abbrev pub is_zlib : List ℕ → Bool
is_zlib front =
    slice_index front 0 == 0x78 && (256 * slice_index front 0 + slice_index front 1) % 31 == 0
    && slice_index front 1 / 32 % 2 == 0

abbrev pub rows : List (Compression × List ℕ)
rows = map (λ (row : Compression × record { now : List ℕ }). (row.0, row.1.now)) MAGICS.now

-- the first row whose bytes stand at the front
unfoldable pub first_row : List (Compression × List ℕ) → List ℕ → Option Compression
first_row [] front = None
first_row (row ∷ rows) front = if starts_with nat_eq front row.1 then Some row.0 else first_row rows front

abbrev pub compression_of : List ℕ → Option Compression
compression_of front = if is_zlib front then Some Zlib else first_row rows front
