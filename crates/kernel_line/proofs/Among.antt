-- Words of a line that are of a module's layout, added one after another. For `add_words`.
use Rattle.std.proofs.Common.{◌≡◌, ℕ, ◌+◌, ◌<◌, true, cond, List, [], ◌∷◌, ◌++◌, length, take, drop, sym, ap, ◌∙◌, inl}
use Rattle.std.proofs.Common.{append_assoc, drop-cons, get_or, add-one, suc, IsUtf8, All}
use Rattle.std.proofs.Math.Seq.{take-suc}
use Rattle.std.proofs.lemmas.List.{take-append-drop}
use Rattle.std.proofs.lemmas.List.Elements.{filter-append, All-map, All-same, All-tail}
use Rattle.std.proofs.lemmas.Str.{IsUtf8-string_bytes}
use Rattle.std.specs.List.{filter}
use Rattle.std.specs.Prelude.{string_bytes, slice_index_or}
use Rattle.std.specs.declared.string.String.{String}
use Rattle.std.specs.declared.alloc.Global.{Global}
use Rattle.grammar_spec.specs.Words.{texts}
use Rattle.kernel_line.specs.Line.{is_of, HasWord, IsWordFault, IsFaultAmong, IsFaultBefore}
use Rattle.kernel_line.specs.declared.layout.Module.{Module}
use Rattle.kernel_line.specs.declared.words.LineFault.{LineFault}
use Rattle.kernel_line.specs.declared.words.LineFault.TheVariants.{Memory, OpenQuote, NoText}

pub one_added : (m : Module) (before now now' read : List (List ℕ)) (i : ℕ) (word : List ℕ) → i < length read
    → word ≡ get_or read i word → now ≡ before ++ filter (is_of m) (take i read)
    → now' ≡ now ++ filter (is_of m) (word ∷ []) → now' ≡ before ++ filter (is_of m) (take (i + 1) read)
one_added m before now now' read i word inside is_word so_far adds =
    adds
    ∙ ap (λ ws. ws ++ filter (is_of m) (word ∷ [])) so_far
    ∙ append_assoc before (filter (is_of m) (take i read)) (filter (is_of m) (word ∷ []))
    ∙ ap (λ ws. before ++ ws) (sym (filter-append (is_of m) (take i read) (word ∷ [])))
    ∙ ap (λ w. before ++ filter (is_of m) (take i read ++ w ∷ [])) is_word
    ∙ ap (λ ws. before ++ filter (is_of m) ws) (sym (take-suc read i word inside))
    ∙ ap (λ k. before ++ filter (is_of m) (take k read)) (sym (add-one i))

-- ---- a word that is not added

texts_are : (words : List (String Global)) → All IsUtf8 (texts words)
texts_are words = All-map IsUtf8 string_bytes words (λ k d below. IsUtf8-string_bytes (slice_index_or words k d))

all_behind : (before added : List (List ℕ)) → All IsUtf8 (before ++ added) → All IsUtf8 added
all_behind [] added h = h
all_behind (word ∷ before) added h = all_behind before added (All-tail IsUtf8 word (before ++ added) h)

-- words that were added are texts
added_are : (now : List (String Global)) (before added : List (List ℕ)) → texts now ≡ before ++ added
    → All IsUtf8 added
added_are now before added e =
    all_behind before added (All-same IsUtf8 (before ++ added) (texts now) (sym e) (texts_are now))

has_word : (m : Module) (read : List (List ℕ)) (i : ℕ) (word : List ℕ) (is : List ℕ → Type 0) → i < length read
    → word ≡ get_or read i word → All IsUtf8 (filter (is_of m) (take i read)) → is_of m word ≡ true → is word
    → HasWord is (filter (is_of m) read)
has_word m read i word is inside is_word before of so = record {
  before = filter (is_of m) (take i read);
  word = word;
  behind = filter (is_of m) (drop (suc i) read);
  listed = ap (filter (is_of m)) (sym (take-append-drop i read)
      ∙ ap (λ ws. take i read ++ ws) (drop-cons read i word inside)
      ∙ ap (λ w. take i read ++ w ∷ drop (suc i) read) (sym is_word))
      ∙ filter-append (is_of m) (take i read) (word ∷ drop (suc i) read)
      ∙ ap (λ t. filter (is_of m) (take i read)
      ++ cond t (word ∷ filter (is_of m) (drop (suc i) read)) (filter (is_of m) (drop (suc i) read))) of;
  are_texts = before;
  is_so = so;
}

pub one_refused : (m : Module) (now : List (String Global)) (before read : List (List ℕ)) (i : ℕ) (word : List ℕ)
    (fault : LineFault) → i < length read → word ≡ get_or read i word
    → texts now ≡ before ++ filter (is_of m) (take i read) → IsWordFault m word fault → IsFaultAmong m read fault
one_refused m now before read i word Memory inside is_word so_far h =
    has_word m read i word IsUtf8 inside is_word (added_are now before (filter (is_of m) (take i read)) so_far) h.0 h.1
one_refused m now before read i word OpenQuote inside is_word so_far h = absurd h
one_refused m now before read i word NoText inside is_word so_far h =
    has_word m read i word (λ w. ¬ (IsUtf8 w)) inside is_word
    (added_are now before (filter (is_of m) (take i read)) so_far) h.0 h.1

-- a fault among the words of a line, whatever comes after them
pub before_others : (m : Module) (read others : List (List ℕ)) (fault : LineFault) → IsFaultAmong m read fault
    → IsFaultBefore m read others fault
before_others m read others Memory h = inl h
before_others m read others OpenQuote h = h
before_others m read others NoText h = h
