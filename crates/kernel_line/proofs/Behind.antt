-- Words one after another: the last value, and the first size. For `last_value` and `reserved_as`.
use Rattle.std.proofs.Common.{◌≡◌, ℕ, ◌+◌, ◌<◌, ◌≤◌, suc, List, [], ◌∷◌, length, drop, codes, Option, Some, None, refl}
use Rattle.std.proofs.Common.{sym, ap, ◌∙◌, drop-cons, get_or, add-one, Bor}
use Rattle.std.proofs.lemmas.List.{drop_all}
use Rattle.std.specs.Option.{option_or, option_and_then, option_copied}
use Rattle.kernel_line.specs.Region.{value_behind, last_value, size_named, reserved_as}

or_none : {T : Type 0} (x : Option T) → option_or x None ≡ x
or_none None = refl
or_none (Some x) = refl

or_assoc : {T : Type 0} (x y z : Option T) → option_or (option_or x y) z ≡ option_or x (option_or y z)
or_assoc None y z = refl
or_assoc (Some x) y z = refl

pub copied_or : (x y : Option (Bor (List ℕ)))
    → option_copied (option_or x y) ≡ option_or (option_copied x) (option_copied y)
copied_or None y = refl
copied_or (Some x) y = refl

-- the word at a place, and those behind it
at_word : (words : List (List ℕ)) (i : ℕ) (word : List ℕ) → i < length words → word ≡ get_or words i word
    → drop i words ≡ word ∷ drop (i + 1) words
at_word words i word inside is_word =
    drop-cons words i word inside
    ∙ ap (λ w. w ∷ drop (suc i) words) (sym is_word)
    ∙ ap (λ k. word ∷ drop k words) (sym (add-one i))

-- what the words have, seen so far
abbrev pub SeenLast : List ℕ → List (List ℕ) → ℕ → Option (List ℕ) → Type 0
SeenLast front words i last = option_or (last_value front (drop i words)) last ≡ last_value front words

pub none_seen : (front : List ℕ) (words : List (List ℕ)) → SeenLast front words 0 None
none_seen front words = or_none (last_value front words)

pub one_seen : (front : List ℕ) (words : List (List ℕ)) (i : ℕ) (word : List ℕ) (last last' : Option (List ℕ))
    → i < length words → word ≡ get_or words i word → last' ≡ option_or (value_behind front word) last
    → SeenLast front words i last → SeenLast front words (i + 1) last'
unfolding last_value
one_seen front words i word last last' inside is_word now so_far =
    ap (λ l. option_or (last_value front (drop (i + 1) words)) l) now
    ∙ sym (or_assoc (last_value front (drop (i + 1) words)) (value_behind front word) last)
    ∙ ap (λ ws. option_or (last_value front ws) last) (sym (at_word words i word inside is_word))
    ∙ so_far

pub all_seen : (front : List ℕ) (words : List (List ℕ)) (i : ℕ) (last : Option (List ℕ)) → length words ≤ i
    → SeenLast front words i last → last ≡ last_value front words
unfolding last_value
all_seen front words i last behind so_far =
    ap (λ ws. option_or (last_value front ws) last) (sym (drop_all i words behind)) ∙ so_far

-- no word so far reserves
abbrev pub NoneReserves : List ℕ → List (List ℕ) → ℕ → Type 0
NoneReserves name words i = reserved_as name (drop i words) ≡ reserved_as name words

abbrev reserved_by : List ℕ → List ℕ → Option ℕ
reserved_by name word = option_and_then (size_named name) (value_behind (codes "reserve_mem=") word)

reserved_step : (name : List ℕ) (words : List (List ℕ)) (i : ℕ) (word : List ℕ) → i < length words
    → word ≡ get_or words i word → NoneReserves name words i
    → option_or (reserved_by name word) (reserved_as name (drop (i + 1) words)) ≡ reserved_as name words
unfolding reserved_as
reserved_step name words i word inside is_word so_far =
    ap (λ ws. reserved_as name ws) (sym (at_word words i word inside is_word)) ∙ so_far

pub first_reserves : (name : List ℕ) (words : List (List ℕ)) (i : ℕ) (word : List ℕ) (size : ℕ) → i < length words
    → word ≡ get_or words i word → NoneReserves name words i → reserved_by name word ≡ Some size
    → Some size ≡ reserved_as name words
first_reserves name words i word size inside is_word so_far e =
    ap (λ o. option_or o (reserved_as name (drop (i + 1) words))) (sym e)
    ∙ reserved_step name words i word inside is_word so_far

pub next_reserves : (name : List ℕ) (words : List (List ℕ)) (i : ℕ) (word : List ℕ) → i < length words
    → word ≡ get_or words i word → NoneReserves name words i → reserved_by name word ≡ None
    → NoneReserves name words (i + 1)
next_reserves name words i word inside is_word so_far e =
    ap (λ o. option_or o (reserved_as name (drop (i + 1) words))) (sym e)
    ∙ reserved_step name words i word inside is_word so_far

pub none_reserves : (name : List ℕ) (words : List (List ℕ)) (i : ℕ) → length words ≤ i → NoneReserves name words i
    → None ≡ reserved_as name words
unfolding reserved_as
none_reserves name words i behind so_far =
    ap (λ ws. reserved_as name ws) (sym (drop_all i words behind)) ∙ so_far
