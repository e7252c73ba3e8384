-- The whole tool on an image in memory
use Rattle.std.specs.Prelude.{◌≡◌, ◌≢◌, ℕ, ◌≤◌, ◌<◌, ◌⊎◌, List, [], ◌++◌, length, take, drop, Some, IsUtf8}
use Rattle.outside.specs.Outside.{Rose}
use Rattle.grammar_spec.specs.Fields.{Text}
use Rattle.grammar_spec.specs.Lines.{fields_of}
use Rattle.command_spec.specs.Answers.{outside}
use Rattle.commands.specs.Runs.{Runs}
use Rattle.oopsbox_c.specs.declared.ends.End.{End}
use Rattle.oopsbox_c.specs.declared.ends.End.TheVariants.{Room, Argument, Memory, Ran}
use Rattle.oopsbox_c.specs.declared.running.Lengths.{Lengths}

-- a run on this image with this status, after which image and text are these. The script never fails; image and text
-- only where memory was refused
pub record IsRun (words : List Text) (script image : List ℕ) (status : ℕ) (after text : List ℕ) : Type 0 where
  pub left : List ℕ
  pub image_faults : ℕ
  pub writes : ℕ
  pub text_faults : ℕ
  pub runs : Runs words (outside (Some script) 0 (Some image) 0 0 (Some []) 0)
      (outside (Some left) 0 (Some after) image_faults writes (Some text) text_faults) status
  pub statuses : status ≤ 10
  pub script_works : status ≢ 5
  pub image_fault : status ≡ 6 → Rose 0 image_faults
  pub text_fault : status ≡ 7 → Rose 0 text_faults

-- the caller's slices
pub record Slices : Type 0 where
  pub image : List ℕ
  pub text : List ℕ
  pub lengths : Lengths

abbrev pub given : List ℕ → List ℕ → Lengths → Slices
given image text lengths = record { image = image; text = text; lengths = lengths }

-- where both have room, the front of each slice is what image and text hold, and the rest is as it was; else both
-- slices are as they were. The lengths are told in any case
abbrev pub HandsOut : End → ℕ → List ℕ → List ℕ → List ℕ → List ℕ → List ℕ → List ℕ → Lengths → Type 0
HandsOut (Ran n) status after text image_old text_old image_new text_new lengths =
    (n ≡ status) × (length after ≤ length image_old) × (length text ≤ length text_old)
    × (image_new ≡ after ++ drop (length after) image_old) × (text_new ≡ text ++ drop (length text) text_old)
    × (lengths.image ≡ length after) × (lengths.text ≡ length text)
HandsOut Room status after text image_old text_old image_new text_new lengths =
    ((length image_old < length after) ⊎ (length text_old < length text))
    × (image_new ≡ image_old) × (text_new ≡ text_old)
    × (lengths.image ≡ length after) × (lengths.text ≡ length text)
HandsOut other status after text image_old text_old image_new text_new lengths = ⊥

-- the tool ran on the front of the image
pub record RanOn (end : End) (words script : List ℕ) (old new : Slices) : Type 0 where
  pub text : IsUtf8 words
  pub within : old.lengths.image ≤ length old.image
  pub status : ℕ
  pub image : List ℕ
  pub put : List ℕ
  pub run : IsRun (fields_of words) script (take old.lengths.image old.image) status image put
  pub handed : HandsOut end status image put old.image old.text new.image new.text new.lengths

-- or nothing was touched; memory is wanted only where the arguments are within their ranges
abbrev pub RunEnds : End → List ℕ → List ℕ → Slices → Slices → Type 0
RunEnds (Ran n) words script old new = RanOn (Ran n) words script old new
RunEnds Room words script old new = RanOn Room words script old new
RunEnds Argument words script old new = (new ≡ old)
    × ((length old.image < old.lengths.image) ⊎ (¬ (IsUtf8 words)))
RunEnds Memory words script old new = (new ≡ old) × (old.lengths.image ≤ length old.image) × IsUtf8 words
RunEnds other words script old new = ⊥
