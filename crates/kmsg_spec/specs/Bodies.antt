-- The body of a crash dump: a heading, and the last lines of the message log that fit
use Rattle.std.specs.Prelude.{◌≡◌, ℕ, ◌-◌, ◌≤◌, nat_le, if◌then◌else◌, List, [], ◌∷◌, ◌++◌, length, take, flat_map}
use Rattle.std.specs.Prelude.{codes, decimal}
use Rattle.kmsg_spec.specs.declared.Reason.{Reason}
use Rattle.kmsg_spec.specs.Reasons.{reason_number, reason_word}

abbrev pub newline : ℕ
newline = 10

-- a line as it is kept
abbrev pub ended : List ℕ → List ℕ
ended text = text ++ newline ∷ []

abbrev pub bytes_of : List (List ℕ) → List ℕ
bytes_of lines = flat_map ended lines

-- these are the last of the lines, as many as fit in the room
pub record AreLastThatFit (room : ℕ) (lines last : List (List ℕ)) : Type 0 where
  pub before : List (List ℕ)
  pub suffix : lines ≡ before ++ last
  pub fit : length (bytes_of last) ≤ room
  pub longest : (front back : List (List ℕ)) → lines ≡ front ++ back → length (bytes_of back) ≤ room
      → length back ≤ length last

-- all lines where they fit, else those of the lines behind the first
unfoldable pub last_lines : ℕ → List (List ℕ) → List (List ℕ)
last_lines room [] = []
last_lines room (line ∷ lines) =
    if nat_le (length (bytes_of (line ∷ lines))) room then line ∷ lines else last_lines room lines

abbrev pub heading : Reason → ℕ → List ℕ
heading reason count = reason_word (reason_number reason) ++ codes "#" ++ decimal count ++ codes " Part1" ++ newline ∷ []

abbrev pub body_below : List ℕ → ℕ → List (List ℕ) → List ℕ
body_below head room lines =
    if nat_le (length head) room then head ++ bytes_of (last_lines (room - length head) lines) else take room head

-- the body of the crash of this number, in a room of so many bytes
abbrev pub body : Reason → ℕ → ℕ → List (List ℕ) → List ℕ
body reason count room lines = body_below (heading reason count) room lines
