-- What a message log stands for
use Rattle.std.specs.Prelude.{◌≡◌, ◌≢◌, ℕ, ◌<◌, List, length, slice_index, All}
use Rattle.circular_buffer.specs.Buffer.{Buffer}
use Rattle.kmsg_spec.specs.Bodies.{newline, bytes_of, last_lines, AreLastThatFit}

-- the text of one line
abbrev pub IsLine : List ℕ → Type 0
IsLine text = (k : ℕ) → k < length text → slice_index text k ≢ newline

-- the log was given these lines and no other, and keeps the last that fit
pub record Keeps (log : Buffer ℕ) (given : List (List ℕ)) : Type 0 where
  pub lines : All IsLine given
  pub bytes : log.items ≡ bytes_of (last_lines log.capacity given)

-- the last lines of the definition are those that it is to name
abbrev pub LastLinesFit : Type 0
LastLinesFit = (room : ℕ) (lines : List (List ℕ)) → AreLastThatFit room lines (last_lines room lines)
