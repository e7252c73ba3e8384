-- Signatures: numbers left out, the place of words, and the rows of kinds, one after the other
use Rattle.std.proofs.Common.{◌≡◌, ℕ, ◌+◌, ◌≤◌, ◌<◌, nat_eq, true, false, cond, List, [], ◌++◌, length, drop, get_or}
use Rattle.std.proofs.Common.{Bor, sym, ap, ◌∙◌}
use Rattle.std.specs.Prelude.{Option}
use Rattle.std.specs.List.{starts_with}
use Rattle.std.proofs.lemmas.List.{drop_all, drop_more, append_assoc, append-nil}
use Rattle.death_spec.specs.declared.Blame.{Blame}
use Rattle.death_spec.specs.declared.Blame.TheVariants.{Report}
use Rattle.death_spec.specs.declared.Piece.{Piece}
use Rattle.death_spec.specs.declared.Piece.TheVariants.{Between}
use Rattle.death_spec.specs.declared.Span.{Span}
use Rattle.death_spec.specs.declared.Death.{Death}
use Rattle.death_spec.specs.Signatures.{piece_of, shown_as, numberless, place_of_words, before_words, kind_rows, kind_in}
use Rattle.death_spec.specs.Signatures.{blamed, in_function, signed_words, signature_of}
use Rattle.death.specs.Rows.{plain_kinds}

-- ---- numbers

-- what a byte adds, and then those behind it
pub numberless_more : (before : Piece) (text out : List ℕ) (at : ℕ) → at < length text
    → (out ++ numberless before (drop at text))
    ≡ (out ++ shown_as before (piece_of before (get_or text at 0)) (get_or text at 0))
    ++ numberless (piece_of before (get_or text at 0)) (drop (at + 1) text)
unfolding numberless
numberless_more before text out at inside =
    ap (λ rest. out ++ numberless before rest) (drop_more text at 0 inside)
    ∙ sym (append_assoc out (shown_as before (piece_of before (get_or text at 0)) (get_or text at 0))
    (numberless (piece_of before (get_or text at 0)) (drop (at + 1) text)))

pub numberless_none : (before : Piece) (text out : List ℕ) (at : ℕ) → length text ≤ at
    → (out ++ numberless before (drop at text)) ≡ out
unfolding numberless
numberless_none before text out at past =
    ap (λ rest. out ++ numberless before rest) (drop_all at text past) ∙ append-nil out

-- ---- the place of words

words_step : (words text : List ℕ) (at : ℕ) → at < length text
    → place_of_words words (drop at text)
    ≡ cond (starts_with nat_eq (drop at text) words) 0 (1 + place_of_words words (drop (at + 1) text))
unfolding place_of_words
words_step words text at inside =
    ap (place_of_words words) (drop_more text at 0 inside)
    ∙ ap (λ rest. cond (starts_with nat_eq rest words) 0 (1 + place_of_words words (drop (at + 1) text)))
    (sym (drop_more text at 0 inside))

pub words_here : (words text : List ℕ) (at : ℕ) → at < length text → starts_with nat_eq (drop at text) words ≡ true
    → place_of_words words (drop at text) ≡ 0
words_here words text at inside e =
    words_step words text at inside ∙ ap (λ t. cond t 0 (1 + place_of_words words (drop (at + 1) text))) e

pub words_behind : (words text : List ℕ) (at : ℕ) → at < length text
    → starts_with nat_eq (drop at text) words ≡ false
    → place_of_words words (drop at text) ≡ 1 + place_of_words words (drop (at + 1) text)
words_behind words text at inside e =
    words_step words text at inside ∙ ap (λ t. cond t 0 (1 + place_of_words words (drop (at + 1) text))) e

pub words_past : (words text : List ℕ) (at : ℕ) → length text ≤ at → place_of_words words (drop at text) ≡ 0
unfolding place_of_words
words_past words text at h = ap (place_of_words words) (drop_all at text h)

-- ---- the rows of kinds

-- what a row has for a line
abbrev pub by_row : Blame × Bor (List ℕ) × Bor (List ℕ) × Bor (List ℕ) → List ℕ → Blame × List ℕ
by_row row words =
    (row.0, row.2.now ++ numberless Between (before_words row.3.now (drop (length row.1.now) words)))

-- a row that fits decides
pub kind_yes : (rows : List (Blame × Bor (List ℕ) × Bor (List ℕ) × Bor (List ℕ))) (words : List ℕ) (i : ℕ)
    (d : Blame × Bor (List ℕ) × Bor (List ℕ) × Bor (List ℕ)) → i < length rows
    → starts_with nat_eq words (get_or rows i d).1.now ≡ true
    → kind_in (plain_kinds (drop i rows)) words ≡ by_row (get_or rows i d) words
unfolding kind_in
kind_yes rows words i d inside e =
    ap (λ rs. kind_in (plain_kinds rs) words) (drop_more rows i d inside)
    ∙ ap (λ t. cond t (by_row (get_or rows i d) words) (kind_in (plain_kinds (drop (i + 1) rows)) words)) e

-- any other leaves it to the rest
pub kind_no : (rows : List (Blame × Bor (List ℕ) × Bor (List ℕ) × Bor (List ℕ))) (words : List ℕ) (i : ℕ)
    (d : Blame × Bor (List ℕ) × Bor (List ℕ) × Bor (List ℕ)) → i < length rows
    → starts_with nat_eq words (get_or rows i d).1.now ≡ false
    → kind_in (plain_kinds (drop i rows)) words ≡ kind_in (plain_kinds (drop (i + 1) rows)) words
unfolding kind_in
kind_no rows words i d inside e =
    ap (λ rs. kind_in (plain_kinds rs) words) (drop_more rows i d inside)
    ∙ ap (λ t. cond t (by_row (get_or rows i d) words) (kind_in (plain_kinds (drop (i + 1) rows)) words)) e

pub kind_none : (rows : List (Blame × Bor (List ℕ) × Bor (List ℕ) × Bor (List ℕ))) (words : List ℕ) (i : ℕ)
    → length rows ≤ i → kind_in (plain_kinds (drop i rows)) words ≡ (Report, numberless Between words)
unfolding kind_in
kind_none rows words i past = ap (λ rs. kind_in (plain_kinds rs) words) (drop_all i rows past)

-- ---- what is appended

-- a kind after what stood there before the rows were gone through
pub kind_added : (blame : Blame) (kind row : Blame × List ℕ) (old here now : List ℕ) → kind ≡ row → here ≡ old
    → blame ≡ row.0 → now ≡ here ++ row.1 → (blame ≡ kind.0) × (now ≡ old ++ kind.1)
kind_added blame kind row old here now same kept is added = (
  is ∙ sym (ap (λ k. k.0) same),
  added ∙ ap (λ out. out ++ row.1) kept ∙ sym (ap (λ k. old ++ k.1) same),
)

-- the kind and the function are the signature
pub signed : (text : List ℕ) (death : Death) (words : List ℕ) (blame : Blame) (function : Option Span)
    (none kind all : List ℕ) → words ≡ signed_words text death → none ≡ []
    → blame ≡ (kind_in kind_rows words).0 → kind ≡ none ++ (kind_in kind_rows words).1
    → function ≡ blamed blame text death → all ≡ kind ++ in_function text function → all ≡ signature_of text death
unfolding signature_of
signed text death words blame function none kind all says starts is first names then =
    then ∙ ap (λ k. k ++ in_function text function) (first ∙ ap (λ out. out ++ (kind_in kind_rows words).1) starts)
    ∙ ap (λ f. (kind_in kind_rows words).1 ++ in_function text f) (names ∙ ap (λ b. blamed b text death) is)
    ∙ ap (λ w. (kind_in kind_rows w).1 ++ in_function text (blamed (kind_in kind_rows w).0 text death)) says
