-- Lists of bytes.
use Rattle.std.specs.Prelude.{ℕ, ◌+◌, ◌<◌, List, drop, slice_index}
use Rattle.std.proofs.lemmas.List.{get_or-drop}

-- each number of the list is a byte's
abbrev pub AreBytes : List ℕ → Type 0
AreBytes xs = (i : ℕ) → slice_index xs i < 256

-- what is left of bytes are bytes
pub AreBytes-drop : (n : ℕ) (xs : List ℕ) → AreBytes xs → AreBytes (drop n xs)
AreBytes-drop n xs of_bytes = λ i. rw (get_or-drop n xs i 0) (of_bytes (n + i))
