-- Words of a line, read one after another. For the loop of `kernel_words`.
use Rattle.std.proofs.Common.{◌≡◌, ℕ, ◌+◌, Bool, true, false, not, ◌==◌, cond, List, [], ◌∷◌, ◌++◌, length, take, drop}
use Rattle.std.proofs.Common.{map, codes, bytes_eq, refl, sym, ap, ◌∙◌, append_assoc, append-nil, arith}
use Rattle.std.proofs.lemmas.Bool.Decides.{nat_tests}
use Rattle.std.proofs.lemmas.List.Sums.{take_while-cons}
use Rattle.std.specs.List.{take_while}
use Rattle.kernel_line.specs.Line.{words_from, unquoted, underscored, line_words}

-- of these words, those before `--`
abbrev pub before_end : List (List ℕ) → List (List ℕ)
before_end words = map underscored (take_while (λ word. not (bytes_eq word (codes "--"))) (map unquoted words))

-- the words so far, and those of the rest
abbrev pub AreRead : List (List ℕ) → List ℕ → List ℕ → Type 0
AreRead read line rest = read ++ before_end (words_from false rest) ≡ line_words line

pub none_read : (read : List (List ℕ)) (line : List ℕ) → read ≡ [] → AreRead read line line
unfolding line_words
none_read read line e = ap (λ ws. ws ++ before_end (words_from false line)) e

-- the first word, and those behind it
first_read : (word : List ℕ) (words : List (List ℕ)) → bytes_eq (unquoted word) (codes "--") ≡ false
    → before_end (word ∷ words) ≡ underscored (unquoted word) ∷ before_end words
first_read word words e =
    ap (λ ws. map underscored ws)
    (take_while-cons (λ w. not (bytes_eq w (codes "--"))) (unquoted word) (map unquoted words)
    ∙ ap (λ t. cond (not t)
    (unquoted word ∷ take_while (λ w. not (bytes_eq w (codes "--"))) (map unquoted words)) []) e)

-- the first word, where it is `--`
none_before : (word : List ℕ) (words : List (List ℕ)) → bytes_eq (unquoted word) (codes "--") ≡ true
    → before_end (word ∷ words) ≡ []
none_before word words e =
    ap (λ ws. map underscored ws)
    (take_while-cons (λ w. not (bytes_eq w (codes "--"))) (unquoted word) (map unquoted words)
    ∙ ap (λ t. cond (not t)
    (unquoted word ∷ take_while (λ w. not (bytes_eq w (codes "--"))) (map unquoted words)) []) e)

-- the words of a rest of the line
abbrev pub Cut : List ℕ → ℕ → Type 0
Cut rest end = words_from false rest
    ≡ take end rest ∷ cond (end == length rest) [] (words_from false (drop (end + 1) rest))

-- the word `--` ends them
pub ended : (read : List (List ℕ)) (line rest word : List ℕ) (end : ℕ) → AreRead read line rest → Cut rest end
    → word ≡ unquoted (take end rest) → bytes_eq word (codes "--") ≡ true → read ≡ line_words line
ended read line rest word end so_far cut is_word e =
    let e' : bytes_eq (unquoted (take end rest)) (codes "--") ≡ true =
    ap (λ w. bytes_eq w (codes "--")) (sym is_word) ∙ e in
    sym (append-nil read)
    ∙ ap (λ ws. read ++ ws) (sym (ap before_end cut ∙ none_before (take end rest)
    (cond (end == length rest) [] (words_from false (drop (end + 1) rest))) e'))
    ∙ so_far

-- one word more
with_word : (read : List (List ℕ)) (line rest word plain : List ℕ) (end : ℕ) → AreRead read line rest → Cut rest end
    → word ≡ unquoted (take end rest) → bytes_eq word (codes "--") ≡ false → plain ≡ underscored word
    → (read ++ plain ∷ []) ++ before_end (cond (end == length rest) [] (words_from false (drop (end + 1) rest)))
    ≡ line_words line
with_word read line rest word plain end so_far cut is_word e is_plain =
    let e' : bytes_eq (unquoted (take end rest)) (codes "--") ≡ false =
    ap (λ w. bytes_eq w (codes "--")) (sym is_word) ∙ e in
    let same : plain ≡ underscored (unquoted (take end rest)) = is_plain ∙ ap underscored is_word in
    append_assoc read (plain ∷ [])
    (before_end (cond (end == length rest) [] (words_from false (drop (end + 1) rest))))
    ∙ ap (λ w. read ++ w ∷ before_end (cond (end == length rest) [] (words_from false (drop (end + 1) rest)))) same
    ∙ ap (λ ws. read ++ ws) (sym (ap before_end cut ∙ first_read (take end rest)
    (cond (end == length rest) [] (words_from false (drop (end + 1) rest))) e'))
    ∙ so_far

pub word_read : (read read' : List (List ℕ)) (line rest word plain : List ℕ) (end : ℕ) → AreRead read line rest
    → Cut rest end → (end ≡ length rest → ⊥) → word ≡ unquoted (take end rest) → bytes_eq word (codes "--") ≡ false
    → plain ≡ underscored word → read' ≡ read ++ plain ∷ [] → AreRead read' line (drop (end + 1) rest)
word_read read read' line rest word plain end so_far cut more is_word e is_plain adds =
    let f : (end == length rest) ≡ false = grind (arith, nat_tests, more) in
    ap (λ ws. ws ++ before_end (words_from false (drop (end + 1) rest))) adds
    ∙ ap (λ t. (read ++ plain ∷ []) ++ before_end (cond t [] (words_from false (drop (end + 1) rest)))) (sym f)
    ∙ with_word read line rest word plain end so_far cut is_word e is_plain

-- the last word
pub last_word_read : (read read' : List (List ℕ)) (line rest word plain : List ℕ) (end : ℕ) → AreRead read line rest
    → Cut rest end → end ≡ length rest → word ≡ unquoted (take end rest) → bytes_eq word (codes "--") ≡ false
    → plain ≡ underscored word → read' ≡ read ++ plain ∷ [] → read' ≡ line_words line
last_word_read read read' line rest word plain end so_far cut last is_word e is_plain adds =
    let f : (end == length rest) ≡ true = grind (arith, nat_tests, last) in
    adds
    ∙ sym (append-nil (read ++ plain ∷ []))
    ∙ ap (λ t. (read ++ plain ∷ []) ++ before_end (cond t [] (words_from false (drop (end + 1) rest)))) (sym f)
    ∙ with_word read line rest word plain end so_far cut is_word e is_plain
