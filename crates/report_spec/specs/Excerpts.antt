-- The lines around those that tell
use Rattle.std.specs.Prelude.{ℕ, zero, suc, ◌-◌, ◌==◌, Bool, ◌&&◌, min, if◌then◌else◌, List, [], ◌∷◌, length}
use Rattle.std.specs.Prelude.{slice_index}
use Rattle.death_spec.specs.declared.Line.{Line}
use Rattle.death_spec.specs.Lines.{lines_from}

-- whether this is the newline before the line that is looked for
abbrev pub is_found : ℕ → ℕ → Bool
is_found b lines = (b == 10) && (lines == 0)

-- the lines that are left above a byte
abbrev pub fewer : ℕ → ℕ → ℕ
fewer b lines = if b == 10 then lines - 1 else lines

-- the place of the line so many lines above the one that a place is in or behind
unfoldable pub back : List ℕ → ℕ → ℕ → ℕ
back text zero lines = zero
back text (suc p) lines =
    if is_found (slice_index text p) lines then suc p else back text p (fewer (slice_index text p) lines)

-- the place of the line so many lines above the one at a place, or of the first
abbrev pub place_above : List ℕ → ℕ → ℕ → ℕ
place_above text at lines = back text (min at (length text)) lines

abbrev pub next_at : ℕ → List Line → ℕ
next_at at [] = at
next_at at (line ∷ lines) = line.next

-- the place so many lines below one at which a line begins, or the end
unfoldable pub below : List ℕ → ℕ → ℕ → ℕ
below text at zero = at
below text at (suc lines) = below text (next_at at (lines_from text at)) lines
