-- Words: their keys, the values that they give, and their faults
use Rattle.std.proofs.Common.{◌≡◌, ℕ, suc, ◌+◌, ◌<◌, ◌≤◌, ◌==◌, Bool, true, false, not, ◌&&◌, ◌||◌, if◌then◌else◌, List}
use Rattle.std.proofs.Common.{[], ◌∷◌, length, drop, map, Option, Some, None, refl, sym, ap, ◌∙◌, arith, add-one, Bor}
use Rattle.std.proofs.Common.{nat_lt, position, get_or, drop-cons, bytes_eq, string_bytes, is_some, is_none, String, Global}
use Rattle.std.specs.Option.{option_map, option_copied, option_and_then}
use Rattle.std.specs.List.{list_any, find, position_or_len, after_first}
use Rattle.std.proofs.Math.ListN.{drop_of_length-le}
use Rattle.std.proofs.lemmas.List.{length-map}
use Rattle.std.proofs.lemmas.Bool.{and_left, le-ltb}
use Rattle.std.proofs.lemmas.Str.Pattern.{split_once_first, IsSplitOnceResult}
use Rattle.grammar_spec.specs.declared.faults.ParamFault.TheVariants.{UnknownKey, Twice, NotANumber}
use Rattle.grammar_spec.specs.Words.{KeyTable, key_of, has_key, IsSplit, value_text, value_of, given, word_fault}
use Rattle.grammar_spec.specs.Words.{texts}
use Rattle.ramoops_layout.proofs.Texts.{if_true, if_false, any_before_end}

-- a word without a separator
pub no_split : (bs : List ℕ) (r : Option (Bor (List ℕ) × Bor (List ℕ))) → IsSplitOnceResult 61 bs r → r ≡ None
    → list_any (λ c. c == 61) bs ≡ false
no_split bs None h e = any_before_end (λ c. c == 61) bs
    ∙ le-ltb (position_or_len (λ c. c == 61) bs) (length bs)
    (omega (arith, split_once_first 61 bs None h (omega arith)))
no_split bs (Some x) h e = cc

has_key_split : (table : KeyTable) (key word own text : List ℕ) → IsSplit table word own text
    → has_key table key word ≡ bytes_eq key own
has_key_split table key word own text s = and_is (list_any (λ c. c == 61) word) (bytes_eq key (key_of table word))
    (bytes_eq key own) s.cut (ap (bytes_eq key) s.named)
  where
    and_is : (a b c : Bool) → a ≡ true → b ≡ c → (a && b) ≡ c
    and_is true b c h e = e
    and_is false b c h e = cc

any_known : (table : KeyTable) (names : List (List ℕ)) (word own text : List ℕ) → IsSplit table word own text
    → list_any (λ key. has_key table key word) names ≡ list_any (λ key. bytes_eq key own) names
any_known table [] word own text s = refl
any_known table (key ∷ names) word own text s =
    cc (has_key_split table key word own text s, any_known table names word own text s)

found_step : (b : Bool) (w : List ℕ) (r : Option (List ℕ))
    → is_some (option_map (after_first (λ c. c == 61)) (if b then Some w else r))
    ≡ (b || is_some (option_map (after_first (λ c. c == 61)) r))
found_step true w r = refl
found_step false w r = refl

-- a key has a value where a word gives it
any_given : (table : KeyTable) (words : List (List ℕ)) (key : List ℕ)
    → is_some (value_text table words key) ≡ list_any (has_key table key) words
unfolding value_text
any_given table [] key = refl
any_given table (word ∷ words) key = found_step (has_key table key word) word (find (has_key table key) words)
    ∙ ap (λ t. has_key table key word || t) (any_given table words key)

-- a test of names is one of the texts that they are seen as
pub any_seen : (test : List ℕ → Bool) (names : List (Bor (List ℕ)))
    → list_any (λ name. test name.now) names ≡ list_any test (map (λ name. name.now) names)
any_seen test [] = refl
any_seen test (name ∷ names) = ap (λ t. test name.now || t) (any_seen test names)

-- so is the place of the first that passes
first_seen : (test : List ℕ → Bool) (names : List (Bor (List ℕ)))
    → position_or_len (λ name. test name.now) names ≡ position_or_len test (map (λ name. name.now) names)
first_seen test [] = refl
first_seen test (name ∷ names) = ap (λ n. if not (test name.now) then 1 + n else 0) (first_seen test names)

pub place_seen : (test : List ℕ → Bool) (names : List (Bor (List ℕ)))
    → position (λ name. test name.now) names ≡ position test (map (λ name. name.now) names)
place_seen test names =
    let seen : List (List ℕ) = map (λ name. name.now) names in
    ap (λ n. if nat_lt n (length names) then Some n else None) (first_seen test names)
    ∙ ap (λ m. if nat_lt (position_or_len test seen) m then Some (position_or_len test seen) else None)
    (sym (length-map names (λ (name : Bor (List ℕ)). name.now)))

-- a word without a separator gives no key
none_given : (table : KeyTable) (names : List (List ℕ)) (word : List ℕ) → list_any (λ c. c == 61) word ≡ false
    → list_any (λ key. has_key table key word) names ≡ false
none_given table [] word bare = refl
none_given table (key ∷ names) word bare =
    let not_this = and_left (list_any (λ c. c == 61) word) (bytes_eq key (key_of table word)) bare in
    cc (not_this, none_given table names word bare)

pub bare_fault : (table : KeyTable) (earlier : List (List ℕ)) (place : ℕ) (word : List ℕ)
    → list_any (λ c. c == 61) word ≡ false → Some (UnknownKey place) ≡ word_fault table earlier place word
bare_fault table earlier place word bare =
    sym (if_true (not (list_any (λ key. has_key table key word) table.names)) _ _
    (ap not (none_given table table.names word bare)))

pub unknown_fault : (table : KeyTable) (earlier : List (List ℕ)) (place : ℕ) (word own text : List ℕ)
    → IsSplit table word own text → list_any (λ key. bytes_eq key own) table.names ≡ false
    → Some (UnknownKey place) ≡ word_fault table earlier place word
unknown_fault table earlier place word own text s h =
    sym (if_true (not (list_any (λ key. has_key table key word) table.names)) _ _
    (ap not (any_known table table.names word own text s ∙ h)))

known : (table : KeyTable) (earlier : List (List ℕ)) (place : ℕ) (word own text : List ℕ)
    → IsSplit table word own text → list_any (λ key. bytes_eq key own) table.names ≡ true
    → word_fault table earlier place word ≡ (if list_any (has_key table own) earlier then Some (Twice place) else
    (if is_none (value_of table own text) then Some (NotANumber place) else None))
known table earlier place word own text s h =
    if_false (not (list_any (λ key. has_key table key word) table.names)) _ _
    (ap not (any_known table table.names word own text s ∙ h))
    ∙ ap (λ (key : List ℕ). if list_any (has_key table key) earlier then Some (Twice place) else
    (if is_none (value_of table key (after_first (λ c. c == 61) word)) then Some (NotANumber place) else None)) s.named
    ∙ ap (λ (t : List ℕ). if list_any (has_key table own) earlier then Some (Twice place) else
    (if is_none (value_of table own t) then Some (NotANumber place) else None)) s.valued

is_some_copied : (r : Option (Bor (List ℕ))) → is_some (option_copied r) ≡ is_some r
is_some_copied None = refl
is_some_copied (Some x) = refl

pub twice_fault : (table : KeyTable) (earlier : List (List ℕ)) (place : ℕ) (word own text : List ℕ)
    (r : Option (Bor (List ℕ))) → IsSplit table word own text → list_any (λ key. bytes_eq key own) table.names ≡ true
    → option_copied r ≡ value_text table earlier own → is_some r ≡ true
    → Some (Twice place) ≡ word_fault table earlier place word
twice_fault table earlier place word own text r s h v t =
    sym (known table earlier place word own text s h ∙ if_true (list_any (has_key table own) earlier) _ _
    (sym (any_given table earlier own) ∙ sym (ap is_some v) ∙ is_some_copied r ∙ t))

new_key : (table : KeyTable) (earlier : List (List ℕ)) (place : ℕ) (word own text : List ℕ)
    (r : Option (Bor (List ℕ))) → IsSplit table word own text → list_any (λ key. bytes_eq key own) table.names ≡ true
    → option_copied r ≡ value_text table earlier own → is_some r ≡ false
    → word_fault table earlier place word ≡ (if is_none (value_of table own text) then Some (NotANumber place) else None)
new_key table earlier place word own text r s h v t =
    known table earlier place word own text s h ∙ if_false (list_any (has_key table own) earlier) _ _
    (sym (any_given table earlier own) ∙ sym (ap is_some v) ∙ is_some_copied r ∙ t)

pub number_fault : (table : KeyTable) (earlier : List (List ℕ)) (place : ℕ) (word own text : List ℕ)
    (r : Option (Bor (List ℕ))) (n : Option ℕ) → IsSplit table word own text
    → list_any (λ key. bytes_eq key own) table.names ≡ true
    → option_copied r ≡ value_text table earlier own → is_some r ≡ false → n ≡ value_of table own text → is_some n ≡ false
    → Some (NotANumber place) ≡ word_fault table earlier place word
number_fault table earlier place word own text r n s h v t e bad =
    sym (new_key table earlier place word own text r s h v t ∙ if_true (is_none (value_of table own text)) _ _
    (ap not (sym (ap is_some e) ∙ bad)))

pub no_fault : (table : KeyTable) (earlier : List (List ℕ)) (place : ℕ) (word own text : List ℕ)
    (r : Option (Bor (List ℕ))) (n : Option ℕ) → IsSplit table word own text
    → list_any (λ key. bytes_eq key own) table.names ≡ true
    → option_copied r ≡ value_text table earlier own → is_some r ≡ false → n ≡ value_of table own text → is_some n ≡ true
    → None ≡ word_fault table earlier place word
no_fault table earlier place word own text r n s h v t e good =
    sym (new_key table earlier place word own text r s h v t ∙ if_false (is_none (value_of table own text)) _ _
    (ap not (sym (ap is_some e) ∙ good)))

abbrev pub Words : Type 0
Words = List (String Global)

pub next_word : (words : Words) (i : ℕ) (w : String Global) → i < length words → w ≡ get_or words i w
    → texts (drop i words) ≡ string_bytes w ∷ texts (drop (i + 1) words)
next_word words i w h e = rw add-one (ap texts (drop-cons words i w h)
    ∙ ap (λ (x : String Global). string_bytes x ∷ texts (drop (suc i) words)) (sym e))

pub value_here : (table : KeyTable) (words : Words) (i : ℕ) (w : String Global) (key own text : List ℕ)
    → i < length words → w ≡ get_or words i w → IsSplit table (string_bytes w) own text → bytes_eq key own ≡ true
    → Some text ≡ value_text table (texts (drop i words)) key
unfolding value_text
value_here table words i w key own text h e s same =
    rw (next_word words i w h e) (sym (ap (option_map (after_first (λ c. c == 61)))
    (if_true (has_key table key (string_bytes w)) (Some (string_bytes w)) _
    (has_key_split table key (string_bytes w) own text s ∙ same)) ∙ ap Some s.valued))

passed : (table : KeyTable) (words : Words) (i : ℕ) (w : String Global) (key : List ℕ) → i < length words
    → w ≡ get_or words i w → has_key table key (string_bytes w) ≡ false
    → value_text table (texts (drop i words)) key ≡ value_text table (texts (drop (i + 1) words)) key
unfolding value_text
passed table words i w key h e other =
    rw (next_word words i w h e) (ap (option_map (after_first (λ c. c == 61)))
    (if_false (has_key table key (string_bytes w)) (Some (string_bytes w)) _ other))

pub value_past : (table : KeyTable) (words : Words) (i : ℕ) (w : String Global) (key own text : List ℕ)
    → i < length words → w ≡ get_or words i w → IsSplit table (string_bytes w) own text → bytes_eq key own ≡ false
    → value_text table (texts (drop i words)) key ≡ value_text table (texts (drop (i + 1) words)) key
value_past table words i w key own text h e s other = passed table words i w key h e
    (has_key_split table key (string_bytes w) own text s ∙ other)

pub value_none : (table : KeyTable) (words : Words) (i : ℕ) (w : String Global) (key : List ℕ) → i < length words
    → w ≡ get_or words i w → list_any (λ c. c == 61) (string_bytes w) ≡ false
    → value_text table (texts (drop i words)) key ≡ value_text table (texts (drop (i + 1) words)) key
value_none table words i w key h e bare = passed table words i w key h e (and_left _ _ bare)

pub value_end : (table : KeyTable) (words : Words) (i : ℕ) (key : List ℕ) → length words ≤ i
    → None ≡ value_text table (texts (drop i words)) key
unfolding value_text
value_end table words i key h = rw (drop_of_length-le words h) refl

pub given_some : (table : KeyTable) (words : List (List ℕ)) (key : List ℕ) (r : Option (Bor (List ℕ)))
    (x : Bor (List ℕ)) → option_copied r ≡ value_text table words key → r ≡ Some x
    → value_of table key x.now ≡ given table words key
unfolding given
given_some table words key r x v e = ap (option_and_then (value_of table key)) (sym (ap option_copied e) ∙ v)

pub given_none : (table : KeyTable) (words : List (List ℕ)) (key : List ℕ) (r : Option (Bor (List ℕ)))
    → option_copied r ≡ value_text table words key → r ≡ None → None ≡ given table words key
unfolding given
given_none table words key r v e = ap (option_and_then (value_of table key)) (sym (ap option_copied e) ∙ v)
