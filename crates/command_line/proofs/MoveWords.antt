-- The words of a move, before and behind `to`
use Rattle.std.proofs.Common.{◌≡◌, ℕ, ◌+◌, ◌-◌, Bool, not, cond, nat_lt, is_some, List, [], ◌∷◌, length, map, take}
use Rattle.std.proofs.Common.{drop, string_bytes, refl, sym, ap, ap₂, ◌∙◌, arith, Option, Some, None, length-drop}
use Rattle.std.proofs.lemmas.List.{take-map, drop-map, length-map, take_all}
use Rattle.std.specs.List.{position, position_or_len}
use Rattle.std.specs.declared.string.String.{String}
use Rattle.std.specs.declared.alloc.Global.{Global}
use Rattle.grammar_spec.specs.Fields.{Text}
use Rattle.command_spec.specs.Commands.{Asked, Move, is_to, parted, with_to}
use Rattle.command_line.specs.Words.{texts}

abbrev pub place_of : List (String Global) → Option ℕ
place_of words = position (λ word. is_to (string_bytes word)) words

places-map : {X Y : Type 0} (f : X → Y) (p : Y → Bool) (xs : List X)
    → position_or_len p (map f xs) ≡ position_or_len (λ x. p (f x)) xs
places-map f p [] = refl
places-map f p (x ∷ xs) = ap (λ (n : ℕ). cond (not (p (f x))) (1 + n) 0) (places-map f p xs)

position-map : {X Y : Type 0} (f : X → Y) (p : Y → Bool) (xs : List X)
    → position p (map f xs) ≡ position (λ x. p (f x)) xs
position-map f p xs = ap₂ (λ (n m : ℕ). cond (nat_lt n m) (Some n) None) (places-map f p xs) (length-map xs f)

place-is : (words : List (String Global)) → position is_to (texts words) ≡ place_of words
place-is words = position-map string_bytes is_to words

pub no_to : (words : List (String Global)) → place_of words ≡ None → with_to (texts words) ≡ None
unfolding with_to
no_to words none = ap (λ (o : Option ℕ). parted o (texts words)) (place-is words ∙ none)

abbrev moves : List Text → List Text → Asked
moves from to = record { command = Move to; before = 2; params = from }

pub one_to : (words to : List (String Global)) (i : ℕ) (b : Bool) → place_of words ≡ Some i
    → to ≡ drop (i + 1) words → is_some (place_of to) ≡ b
    → with_to (texts words) ≡ cond b None (Some (moves (texts (take i words)) (texts to)))
unfolding with_to
one_to words to i b place behind more =
    let tail : drop (i + 1) (texts words) ≡ texts to = drop-map string_bytes (i + 1) words ∙ ap texts (sym behind) in
    let head : take i (texts words) ≡ texts (take i words) = take-map string_bytes i words in
    let again : is_some (position is_to (texts to)) ≡ b = ap is_some (place-is to) ∙ more in
    ap (λ (o : Option ℕ). parted o (texts words)) (place-is words ∙ place)
    ∙ ap₂ (λ (xs ys : List Text). cond (is_some (position is_to ys)) None (Some (moves xs ys))) head tail
    ∙ ap (λ (t : Bool). cond t None (Some (moves (texts (take i words)) (texts to)))) again

-- the rest of a slice is what its place drops
pub rest_is : {X : Type 0} (xs : List X) (n : ℕ) → take (length xs - n) (drop n xs) ≡ drop n xs
rest_is xs n = take_all (length xs - n) (drop n xs) (omega (arith, length-drop n xs))
