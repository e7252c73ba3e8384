-- A line's tokens, the last first, and what data puts onto them
use Rattle.std.specs.Prelude.{◌≡◌, ℕ, List, [], ◌∷◌, fold, Option, Some, None, ⊤}
use Rattle.json.specs.Token.{Token}
use Rattle.json.specs.Written.{Written}
use Rattle.serde_json.specs.Data.{Data, null, boolean, number, string, array, object, Items, no_items, item, Members, no_members, member}
use Rattle.serde_json.specs.Written.{number_text, unless_float}

-- the tokens with those of the data put onto them
abbrev mutual
  pub onto : Data → List Token → List Token
  onto null ts = Token.null ∷ ts
  onto (boolean b) ts = Token.boolean b ∷ ts
  onto (number n) ts = Token.number (number_text n) ∷ ts
  onto (string s) ts = Token.string s ∷ ts
  onto (array ds) ts = items_onto ds (Token.begin_array ∷ ts)
  onto (object ms) ts = members_onto ms (Token.begin_object ∷ ts)

  -- with the closing bracket
  pub items_onto : Items → List Token → List Token
  items_onto no_items ts = Token.end_array ∷ ts
  items_onto (item d ds) ts = items_onto ds (onto d ts)

  pub members_onto : Members → List Token → List Token
  members_onto no_members ts = Token.end_object ∷ ts
  members_onto (member k d ms) ts = members_onto ms (onto d (Token.key k ∷ ts))

-- one after another, with no bracket
abbrev pub all_onto : List Data → List Token → List Token
all_onto ds ts = fold (λ us d. onto d us) ts ds

-- a text, or null
abbrev pub text_data : Option (List ℕ) → Data
text_data None = null
text_data (Some text) = string text

-- ---- numbers

-- the token is no number that reads as a float
abbrev pub IsPlain : Token → Type 0
IsPlain Token.begin_object = ⊤
IsPlain Token.end_object = ⊤
IsPlain Token.begin_array = ⊤
IsPlain Token.end_array = ⊤
IsPlain (Token.key s) = ⊤
IsPlain (Token.string s) = ⊤
IsPlain (Token.number s) = unless_float s ≡ s
IsPlain (Token.boolean b) = ⊤
IsPlain Token.null = ⊤
IsPlain Token.bad = ⊤

unfoldable pub ArePlain : List Token → Type 0
ArePlain [] = ⊤
ArePlain (t ∷ ts) = IsPlain t × ArePlain ts

-- the line began empty, and has no number that reads as a float
pub record IsPlainLine (w : Written) : Type 0 where
  pub empty : w.before ≡ []
  pub plain : ArePlain w.tokens
