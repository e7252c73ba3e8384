-- The words of a kernel's command line (lib/cmdline.c, next_arg; kernel/params.c, parse_args), and of these the ones
-- that say how ramoops lays its memory out (fs/pstore/ram.c, module_param), or pstore_blk a storage (fs/pstore/blk.c)
use Rattle.std.specs.Prelude.{◌≡◌, ◌⊎◌, ℕ, ◌+◌, ◌-◌, ◌%◌, ◌<◌, Bool, true, false, not, ◌&&◌, ◌||◌, ◌==◌, nat_eq, nat_le}
use Rattle.std.specs.Prelude.{if◌then◌else◌, List, [], ◌∷◌, ◌++◌, length, take, drop, map, remove, count_by, codes}
use Rattle.std.specs.Prelude.{bytes_eq, IsUtf8, All}
use Rattle.std.specs.List.{filter, list_any, ends_with, onto_first, take_while, before_first, after_first}
use Rattle.std.specs.List.{position_or_len}
use Rattle.grammar_spec.specs.Numbers.{begins}
use Rattle.kernel_line.specs.declared.layout.Module.{Module}
use Rattle.kernel_line.specs.declared.layout.Module.TheVariants.{Ramoops, PstoreBlk}
use Rattle.kernel_line.specs.declared.words.LineFault.{LineFault}
use Rattle.kernel_line.specs.declared.words.LineFault.TheVariants.{Memory, OpenQuote, NoText}

-- white space: tab to carriage return, the space, and the no-break space of Latin-1 (lib/ctype.c)
abbrev pub is_white : ℕ → Bool
is_white b = (nat_le 9 b && nat_le b 13) || b == 32 || b == 160

abbrev pub is_quote : ℕ → Bool
is_quote b = b == 34

abbrev pub is_equals : ℕ → Bool
is_equals b = b == 61

-- what stands between white space that is not within quotes; an earlier quote may be open
unfoldable pub words_from : Bool → List ℕ → List (List ℕ)
words_from is_within [] = [] ∷ []
words_from is_within (b ∷ bs) =
    let words = words_from (if is_quote b then not is_within else is_within) bs in
    if is_white b && not is_within then [] ∷ words else onto_first b words

-- each quote has its end
abbrev pub is_closed : List ℕ → Bool
is_closed line = count_by is_quote line % 2 == 0

abbrev pub is_quoted : List ℕ → Bool
is_quoted text = begins (34 ∷ []) text

abbrev pub without_last_quote : List ℕ → List ℕ
without_last_quote text = if ends_with nat_eq text (34 ∷ []) then take (length text - 1) text else text

-- a word without the quote in front of it, and without the one in front of its value
abbrev pub body_of : List ℕ → List ℕ
body_of word = if is_quoted word then drop 1 word else word

abbrev pub opened : List ℕ → List ℕ
opened body = if is_quoted (after_first is_equals body) then remove body (position_or_len is_equals body + 1) else body

-- and then without the one at its end; other quotes stay
abbrev pub unquoted : List ℕ → List ℕ
unquoted word =
    if is_quoted word || is_quoted (after_first is_equals (body_of word))
    then without_last_quote (opened (body_of word)) else body_of word

-- the kernel's words: what stands behind a word `--` is init's
abbrev pub kernel_words : List ℕ → List (List ℕ)
kernel_words line = take_while (λ word. not (bytes_eq word (codes "--"))) (map unquoted (words_from false line))

-- `-` and `_` are alike in a name
abbrev pub underscored : List ℕ → List ℕ
underscored word =
    map (λ b. if b == 45 then 95 else b) (before_first is_equals word) ++ drop (position_or_len is_equals word) word

-- what stands before each parameter of a module
abbrev pub prefix_of : Module → List ℕ
prefix_of Ramoops = codes "ramoops."
prefix_of PstoreBlk = codes "pstore_blk."

-- the module's parameters that say nothing of the layout
abbrev pub others : Module → List (List ℕ)
others Ramoops =
    codes "mem_address" ∷ codes "mem_name" ∷ codes "mem_type" ∷ codes "max_reason" ∷ codes "dump_oops" ∷ []
others PstoreBlk = codes "blkdev" ∷ codes "best_effort" ∷ codes "max_reason" ∷ []

-- whether a word has the module's prefix and gives none of the other parameters
abbrev pub is_of : Module → List ℕ → Bool
is_of which word =
    begins (prefix_of which) word
    && not (list_any (λ other. bytes_eq other (before_first is_equals (drop (length (prefix_of which)) word)))
    (others which))

-- the kernel's words, with `_` in their names
unfoldable pub line_words : List ℕ → List (List ℕ)
line_words line = map underscored (kernel_words line)

-- those of a module's layout
unfoldable pub layout_words : Module → List ℕ → List (List ℕ)
layout_words which line = filter (is_of which) (line_words line)

-- one of these words is so, and those before it are texts
pub record HasWord (is : List ℕ → Type 0) (words : List (List ℕ)) : Type 0 where
  pub before : List (List ℕ)
  pub word : List ℕ
  pub behind : List (List ℕ)
  pub listed : words ≡ before ++ word ∷ behind
  pub are_texts : All IsUtf8 before
  pub is_so : is word

-- why a word is not added: memory is taken only for one that is of the layout, and a text
abbrev pub IsWordFault : Module → List ℕ → LineFault → Type 0
IsWordFault which word Memory = (is_of which word ≡ true) × IsUtf8 word
IsWordFault which word OpenQuote = ⊥
IsWordFault which word NoText = (is_of which word ≡ true) × ¬ (IsUtf8 word)

-- why one of these words is not added: the first that is no text, or memory for a text before that
abbrev pub IsFaultAmong : Module → List (List ℕ) → LineFault → Type 0
IsFaultAmong which words Memory = HasWord IsUtf8 (filter (is_of which) words)
IsFaultAmong which words OpenQuote = ⊥
IsFaultAmong which words NoText = HasWord (λ word. ¬ (IsUtf8 word)) (filter (is_of which) words)

-- why those of the layout and then others are not put together: memory may run out at the others too
abbrev pub IsFaultBefore : Module → List (List ℕ) → List (List ℕ) → LineFault → Type 0
IsFaultBefore which words others Memory = IsFaultAmong which words Memory ⊎ (0 < length others)
IsFaultBefore which words others fault = IsFaultAmong which words fault

-- what was there stands first
pub record StandsFirst (old new : List (List ℕ)) : Type 0 where
  pub more : List (List ℕ)
  pub is : new ≡ old ++ more

-- why a line has no words: the quotes are looked at before any memory is taken
abbrev pub IsUnread : List ℕ → LineFault → Type 0
IsUnread line Memory = is_closed line ≡ true
IsUnread line OpenQuote = is_closed line ≡ false
IsUnread line NoText = ⊥
