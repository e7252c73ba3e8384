-- Words `key=value` by a table of keys, and the first fault among them
use Rattle.std.specs.Prelude.{◌≡◌, ℕ, Bool, true, ◌&&◌, not, if◌then◌else◌, ◌==◌, List, [], ◌∷◌, ◌++◌, length, drop}
use Rattle.std.specs.Prelude.{map, bytes_eq, position, string_bytes, is_none, Option, Some, None, Result, Ok, Err}
use Rattle.std.specs.Option.{option_and_then, option_map}
use Rattle.std.specs.List.{list_any, find, before_first, after_first}
use Rattle.std.specs.declared.string.String.{String}
use Rattle.std.specs.declared.alloc.Global.{Global}
use Rattle.grammar_spec.specs.declared.faults.ParamFault.{ParamFault}
use Rattle.grammar_spec.specs.declared.faults.ParamFault.TheVariants.{UnknownKey, Twice, NotANumber}
use Rattle.grammar_spec.specs.Numbers.{number_of, begins}

-- a key whose value is one of these texts
pub record Choice : Type 0 where
  pub key : List ℕ
  pub texts : List (List ℕ)

-- the keys that words may give, and the prefix that each may have. The value of a key is a number, but for those of the
-- two choices
pub record KeyTable : Type 0 where
  pub prefix : List ℕ
  pub names : List (List ℕ)
  pub first : Choice
  pub second : Choice

-- what stands before the first `=`, without the prefix
abbrev pub key_of : KeyTable → List ℕ → List ℕ
key_of table word =
    let name = before_first (λ c. c == 61) word in
    if begins table.prefix name then drop (length table.prefix) name else name

-- whether a word gives this key
abbrev pub has_key : KeyTable → List ℕ → List ℕ → Bool
has_key table key word = list_any (λ c. c == 61) word && bytes_eq key (key_of table word)

-- a word with its key and the text of its value
pub record IsSplit (table : KeyTable) (word name text : List ℕ) : Type 0 where
  pub cut : list_any (λ c. c == 61) word ≡ true
  pub named : key_of table word ≡ name
  pub valued : after_first (λ c. c == 61) word ≡ text

-- the place of a text among those of a choice
abbrev pub text_place : Choice → List ℕ → Option ℕ
text_place choice text = position (λ own. bytes_eq own text) choice.texts

-- the number that a value writes; of a choice, its place among the texts
abbrev pub value_of : KeyTable → List ℕ → List ℕ → Option ℕ
value_of table key text =
    if bytes_eq key table.first.key then text_place table.first text
    else (if bytes_eq key table.second.key then text_place table.second text else number_of text)

-- what is wrong with a word at this place, behind these
abbrev pub word_fault : KeyTable → List (List ℕ) → ℕ → List ℕ → Option ParamFault
word_fault table earlier place word =
    if not (list_any (λ key. has_key table key word) table.names) then Some (UnknownKey place)
    else if list_any (has_key table (key_of table word)) earlier then Some (Twice place)
    else if is_none (value_of table (key_of table word) (after_first (λ c. c == 61) word)) then Some (NotANumber place)
    else None

abbrev pub either : Option ParamFault → Option ParamFault → Option ParamFault
either (Some fault) other = Some fault
either None other = other

-- the first faulty word among these, of which so many stand before
unfoldable pub first_fault : KeyTable → List (List ℕ) → List (List ℕ) → Option ParamFault
first_fault table earlier [] = None
first_fault table earlier (word ∷ words) = either (word_fault table earlier (length earlier) word)
    (first_fault table (earlier ++ word ∷ []) words)

-- the text of the value that the words give a key, and the number
unfoldable pub value_text : KeyTable → List (List ℕ) → List ℕ → Option (List ℕ)
value_text table words key = option_map (after_first (λ c. c == 61)) (find (has_key table key) words)

unfoldable pub given : KeyTable → List (List ℕ) → List ℕ → Option ℕ
given table words key = option_and_then (value_of table key) (value_text table words key)

-- what is read, or the fault
abbrev pub ok_unless : {A : Type 0} → Option ParamFault → A → Result A ParamFault
ok_unless None read = Ok read
ok_unless (Some fault) read = Err fault

abbrev pub texts : List (String Global) → List (List ℕ)
texts words = map string_bytes words
