-- The words of a text, and why it has none
use Rattle.std.specs.Prelude.{ℕ, List, [], ◌∷◌, IsUtf8}
use Rattle.grammar_spec.specs.Lines.{fields_of}
use Rattle.report_entry.specs.declared.words.WordsFault.{WordsFault}
use Rattle.report_entry.specs.declared.words.WordsFault.TheVariants.{NotText, Memory}

-- what stands between spaces; an empty text has no words
abbrev pub text_words : List ℕ → List (List ℕ)
text_words [] = []
text_words (b ∷ bs) = fields_of (b ∷ bs)

-- the text is not UTF-8; or it is, and memory was refused
abbrev pub IsWordsFault : WordsFault → List ℕ → Type 0
IsWordsFault NotText text = ¬ (IsUtf8 text)
IsWordsFault Memory text = IsUtf8 text
