-- The words that the page's call reads: those of a kernel's command line, and those of a text
use Rattle.std.specs.Prelude.{◌≡◌, ℕ, ◌==◌, true, false, ◌⊎◌, if◌then◌else◌, List, ◌++◌, length, IsUtf8}
use Rattle.std.specs.List.{filter}
use Rattle.grammar_spec.specs.Fields.{Text}
use Rattle.kernel_line.specs.declared.layout.Module.TheVariants.{Ramoops}
use Rattle.kernel_line.specs.declared.words.LineFault.{LineFault}
use Rattle.kernel_line.specs.declared.words.LineFault.TheVariants.{Memory as NoMemory, NoText}
use Rattle.kernel_line.specs.Line.{is_closed, is_of, line_words, IsFaultBefore}
use Rattle.report_entry.specs.Words.{text_words}
use Rattle.report_entry.specs.Storages.{with_storage_words, IsLineFault}
use Rattle.oopsbox_page.specs.declared.words.NoWords.{NoWords}
use Rattle.oopsbox_page.specs.declared.words.NoWords.TheVariants.{Unreadable, Memory}

-- those of the line that lay a region out, and then the text's
abbrev pub region_words : List Text → List Text → List Text
region_words line more = filter (is_of Ramoops) line ++ more

-- behind those of the line that give the sizes of a storage, where there is no device tree
abbrev pub words_by : List ℕ → List Text → List Text → List Text
words_by tree line more =
    if length tree == 0 then with_storage_words (region_words line more) line else region_words line more

abbrev pub asked_words : List ℕ → List ℕ → List ℕ → List Text
asked_words tree line text = words_by tree (line_words line) (text_words text)

-- why words of the line were not added
pub record IsStorageFault (tree : List ℕ) (line more : List Text) (fault : LineFault) : Type 0 where
  pub no_tree : (length tree == 0) ≡ true
  pub fault_is : IsLineFault (region_words line more) line fault

abbrev pub IsFaultBy : List ℕ → List Text → List Text → LineFault → Type 0
IsFaultBy tree line more fault = IsFaultBefore Ramoops line more fault ⊎ IsStorageFault tree line more fault

-- each quote of the line has its end, and the text is UTF-8
pub record IsReadable (line text : List ℕ) : Type 0 where
  pub closed : is_closed line ≡ true
  pub is_text : IsUtf8 text

-- a quote of the line has no end, or a word of the layout in it is no text, or the text is not UTF-8
abbrev pub IsUnreadable : List ℕ → List ℕ → List ℕ → Type 0
IsUnreadable tree line text = (is_closed line ≡ false)
    ⊎ IsFaultBy tree (line_words line) (text_words text) NoText
    ⊎ (¬ (IsUtf8 text))

-- why there are no words: memory is taken only for a line and a text that can be read
abbrev pub IsUnread : List ℕ → List ℕ → List ℕ → NoWords → Type 0
IsUnread tree line text Unreadable = IsUnreadable tree line text
IsUnread tree line text Memory = IsReadable line text

abbrev pub no_words : LineFault → NoWords
no_words NoMemory = Memory
no_words other = Unreadable
