-- Words without a fault give keys of their own, so there are no more of them than keys
use Rattle.std.proofs.Common.{◌≡◌, ℕ, suc, ◌+◌, ◌^◌, ◌<◌, ◌≤◌, ◌==◌, Bool, true, false, not, ◌||◌, if◌then◌else◌, List}
use Rattle.std.proofs.Common.{[], ◌∷◌, ◌++◌, length, take, drop, Option, Some, None, refl, sym, ap, ◌∙◌, arith, add-one}
use Rattle.std.proofs.Common.{get_or, bytes_eq, string_bytes, is_none, String, Global}
use Rattle.std.specs.List.{list_any, after_first}
use Rattle.std.proofs.Math.Seq.{take-suc}
use Rattle.std.proofs.lemmas.List.{map-append, length-map, length-take}
use Rattle.std.proofs.Math.ListN.{drop_of_length-le}
use Rattle.std.proofs.lemmas.List.Folds.{list_any-append}
use Rattle.std.proofs.lemmas.Bool.{and_parts}
use Rattle.std.proofs.lemmas.Slice.Eq.{bytes_eq-Decides}
use Rattle.grammar_spec.specs.declared.faults.ParamFault.{ParamFault}
use Rattle.grammar_spec.specs.declared.faults.ParamFault.TheVariants.{UnknownKey, Twice, NotANumber}
use Rattle.grammar_spec.specs.Words.{KeyTable, key_of, has_key, value_of, word_fault, first_fault, either, texts}
use Rattle.ramoops_layout.specs.declared.words.Keys.{Keys}
use Rattle.ramoops_layout.specs.Keys.{table_of}
use Rattle.ramoops_layout.proofs.WordLaws.{Words, next_word}

-- how many pass a test
abbrev pub passing : {X : Type 0} → (X → Bool) → List X → ℕ
passing p [] = 0
passing p (x ∷ xs) = (if p x then 1 else 0) + passing p xs

-- one more of these pass where they also pass a second test
count_step : (a b : Bool) (m n : ℕ) → m ≤ n → (if a then 1 else 0) + m ≤ (if a || b then 1 else 0) + n
count_step true b m n h = omega arith
count_step false true m n h = omega arith
count_step false false m n h = omega arith

count_keeps : {X : Type 0} (p q : X → Bool) (xs : List X) → passing p xs ≤ passing (λ x. p x || q x) xs
count_keeps p q [] = omega arith
count_keeps p q (x ∷ xs) = count_step (p x) (q x) (passing p xs) (passing (λ x. p x || q x) xs) (count_keeps p q xs)

grow_step : (a b : Bool) (m n : ℕ) (later : Bool) → (b ≡ true → a ≡ false) → m ≤ n → (later ≡ true → m + 1 ≤ n)
    → (b || later) ≡ true
    → (if a then 1 else 0) + m + 1 ≤ (if a || b then 1 else 0) + n
grow_step true true m n later new keeps grows h = cc (new refl)
grow_step true false m n later new keeps grows h = let more : m + 1 ≤ n = grows h in omega arith
grow_step false true m n later new keeps grows h = omega arith
grow_step false false m n later new keeps grows h = let more : m + 1 ≤ n = grows h in omega arith

count_grows : {X : Type 0} (p q : X → Bool) (xs : List X) → ((x : X) → q x ≡ true → p x ≡ false)
    → list_any q xs ≡ true → passing p xs + 1 ≤ passing (λ x. p x || q x) xs
count_grows p q [] new h = cc
count_grows p q (x ∷ xs) new h =
    grow_step (p x) (q x) (passing p xs) (passing (λ x. p x || q x) xs) (list_any q xs) (new x) (count_keeps p q xs)
    (count_grows p q xs new) h

-- what a word without a fault says of its key
three : (u t n : Bool) (place : ℕ) → (if u then Some (UnknownKey place) else
    (if t then Some (Twice place) else (if n then Some (NotANumber place) else None))) ≡ None
    → (u ≡ false) × (t ≡ false)
three true t n place h = cc
three false true n place h = cc
three false false n place h = (refl, refl)

not_false : (b : Bool) → not b ≡ false → b ≡ true
not_false true h = refl
not_false false h = cc

own_key : (table : KeyTable) (earlier : List (List ℕ)) (word key : List ℕ)
    → list_any (has_key table (key_of table word)) earlier ≡ false → has_key table key word ≡ true
    → list_any (has_key table key) earlier ≡ false
own_key table earlier word key new h =
    let same : key ≡ key_of table word = (bytes_eq-Decides key (key_of table word)).0
    (and_parts (list_any (λ c. c == 61) word) (bytes_eq key (key_of table word)) h).1 in
    rw same new

or_nil : (b c : Bool) → (b || (c || false)) ≡ (b || c)
or_nil true c = refl
or_nil false true = refl
or_nil false false = refl

count_same : {X : Type 0} (p q : X → Bool) (xs : List X) → ((x : X) → p x ≡ q x) → passing p xs ≡ passing q xs
count_same p q [] h = refl
count_same p q (x ∷ xs) h = rw (h x) (ap (λ n. (if q x then 1 else 0) + n) (count_same p q xs h))

taken : (words : Words) (i : ℕ) (w : String Global) → i < length words → w ≡ get_or words i w
    → texts (take (i + 1) words) ≡ texts (take i words) ++ string_bytes w ∷ []
taken words i w h e = rw (add-one, take-suc words i w h)
    (map-append string_bytes (take i words) (get_or words i w ∷ [])
    ∙ ap (λ (x : String Global). texts (take i words) ++ string_bytes x ∷ []) (sym e))

-- how many keys these words give
unfoldable pub keys_in : KeyTable → List (List ℕ) → ℕ
keys_in table words = passing (λ key. list_any (has_key table key) words) table.names

-- the words passed over give keys of their own
pub apart : (table : KeyTable) (words : Words) (i place : ℕ) (w : String Global) → i < length words
    → w ≡ get_or words i w → None ≡ word_fault table (texts (take i words)) place (string_bytes w)
    → i ≤ keys_in table (texts (take i words)) → i + 1 ≤ keys_in table (texts (take (i + 1) words))
unfolding keys_in
apart table words i place w h e none below =
    let earlier = texts (take i words) in
    let facts = three (not (list_any (λ key. has_key table key (string_bytes w)) table.names))
    (list_any (has_key table (key_of table (string_bytes w))) (texts (take i words)))
    (is_none (value_of table (key_of table (string_bytes w)) (after_first (λ c. c == 61) (string_bytes w)))) place
    (sym none) in
    let more = count_grows (λ key. list_any (has_key table key) (texts (take i words)))
    (λ key. has_key table key (string_bytes w)) table.names
    (λ key. own_key table (texts (take i words)) (string_bytes w) key facts.1) (not_false _ facts.0) in
    let same = count_same (λ key. list_any (has_key table key) (texts (take (i + 1) words)))
    (λ key. list_any (has_key table key) (texts (take i words)) || has_key table key (string_bytes w)) table.names
    (λ key. ap (list_any (has_key table key)) (taken words i w h e)
    ∙ list_any-append (has_key table key) (texts (take i words)) (string_bytes w ∷ []) ∙ or_nil _ _) in
    rw same (omega (arith, more, below))

one_at_most : (a : Bool) (m n : ℕ) → m ≤ n → (if a then 1 else 0) + m ≤ suc n
one_at_most true m n h = omega arith
one_at_most false m n h = omega arith

passing_at_most : {X : Type 0} (p : X → Bool) (xs : List X) → passing p xs ≤ length xs
passing_at_most p [] = omega arith
passing_at_most p (x ∷ xs) = one_at_most (p x) (passing p xs) (length xs) (passing_at_most p xs)

pub few : (keys : Keys) (words : List (List ℕ)) → keys_in (table_of keys) words < 2 ^ 32
unfolding keys_in
few keys words = omega (
  arith,
  passing_at_most (λ key. list_any (has_key (table_of keys) key) words) (table_of keys).names,
  length-map keys.names.now (λ name. name.now),
  keys.few,
)

-- the first fault comes behind a word without one, or is that of this word
pub next_fault : (table : KeyTable) (words : Words) (i : ℕ) (w : String Global) → i < length words
    → w ≡ get_or words i w → length (texts (take i words)) ≡ i
    → first_fault table (texts (take i words)) (texts (drop i words))
    ≡ either (word_fault table (texts (take i words)) i (string_bytes w))
    (first_fault table (texts (take (i + 1) words)) (texts (drop (i + 1) words)))
unfolding first_fault
next_fault table words i w h e len = rw (next_word words i w h e, taken words i w h e)
    (ap (λ n. either (word_fault table (texts (take i words)) n (string_bytes w))
    (first_fault table (texts (take i words) ++ string_bytes w ∷ []) (texts (drop (i + 1) words)))) len)

length_taken : (words : Words) (i : ℕ) → i ≤ length words → length (texts (take i words)) ≡ i
length_taken words i h = simp (length-map, length-take) (omega arith)

pub fault_step : (table : KeyTable) (words : Words) (i : ℕ) (w : String Global) (r : Option ParamFault)
    → i < length words → w ≡ get_or words i w → r ≡ word_fault table (texts (take i words)) i (string_bytes w)
    → first_fault table [] (texts words) ≡ first_fault table (texts (take i words)) (texts (drop i words))
    → first_fault table [] (texts words)
    ≡ either r (first_fault table (texts (take (i + 1) words)) (texts (drop (i + 1) words)))
fault_step table words i w r h e is so_far =
    so_far ∙ next_fault table words i w h e (length_taken words i (omega arith))
    ∙ ap (λ (f : Option ParamFault). either f (first_fault table (texts (take (i + 1) words))
    (texts (drop (i + 1) words)))) (sym is)

pub found_fault : (table : KeyTable) (words : Words) (f : ParamFault) (r rest : Option ParamFault) → r ≡ Some f
    → first_fault table [] (texts words) ≡ either r rest → Some f ≡ first_fault table [] (texts words)
found_fault table words f r rest e is = sym (is ∙ ap (λ (x : Option ParamFault). either x rest) e)

pub faultless : (table : KeyTable) (words : Words) (i : ℕ) → length words ≤ i
    → first_fault table [] (texts words) ≡ first_fault table (texts (take i words)) (texts (drop i words))
    → None ≡ first_fault table [] (texts words)
unfolding first_fault
faultless table words i h so_far = sym (so_far
    ∙ ap (λ (xs : Words). first_fault table (texts (take i words)) (texts xs)) (drop_of_length-le words h))
