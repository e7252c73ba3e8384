-- A line's numbers are integers, so that data is what its tokens say
use Rattle.std.proofs.Common.{◌≡◌, ◌∙◌, ℕ, List, [], ◌∷◌, ◌++◌, ◌<◌, ◌^◌, decimal, reverse, Result, Ok, Err, refl, ap, ap₂}
use Rattle.std.proofs.lemmas.List.{reverse-append}
use Rattle.json.specs.Token.{Token}
use Rattle.json.specs.Json as json
use Rattle.json.specs.Tree.{json_tokens, items_tokens, members_tokens}
use Rattle.json.specs.Written.{Written, Writes}
use Rattle.serde_json.specs.Data.{unsigned}
use Rattle.serde_json.specs.Written.{unless_float, blank, blank_items, blank_members}
use Rattle.serde_json.proofs.Texts.{unless_float-number_of}
use Rattle.serde_json.proofs.Numbers.{number_of-decimal}
use Rattle.report_json.specs.Tokens.{IsPlain, ArePlain, IsPlainLine}

pub plain_decimal : (n : ℕ) → n < 2 ^ 64 → unless_float (decimal n) ≡ decimal n
plain_decimal n h = unless_float-number_of (decimal n) (unsigned n) (number_of-decimal n h)

pub no_tokens : ArePlain []
unfolding ArePlain
no_tokens = tt

plain_more : (ts us : List Token) → ArePlain ts → ArePlain us → ArePlain (ts ++ us)
unfolding ArePlain
plain_more [] us h k = k
plain_more (t ∷ ts) us h k = (h.0, plain_more ts us h.1 k)

plain_front : (ts us : List Token) → ArePlain (ts ++ us) → ArePlain ts
unfolding ArePlain
plain_front [] us h = tt
plain_front (t ∷ ts) us h = (h.0, plain_front ts us h.1)

plain_rest : (ts us : List Token) → ArePlain (ts ++ us) → ArePlain us
unfolding ArePlain
plain_rest [] us h = h
plain_rest (t ∷ ts) us h = plain_rest ts us h.1

pub line_more : {E : Type 0} (r : Result (Unit {0}) E) (old new : Written) (t : Token) → Writes r old new t → IsPlainLine old
    → IsPlain t → IsPlainLine new
unfolding ArePlain
line_more (Ok u) old new t w is h = record {
  empty = w.room.0 ∙ is.empty;
  plain = rw w.ok (plain_more old.tokens (t ∷ []) is.plain (h, tt));
}
line_more (Err e) old new t w is h = record {
  empty = w.room.0 ∙ is.empty;
  plain = rw w.err is.plain;
}

pub last_first : (ts : List Token) (t : Token) → reverse (ts ++ t ∷ []) ≡ t ∷ reverse ts
last_first ts t = reverse-append ts (t ∷ [])

pub ruleset lines = (last_first, plain_decimal)

-- with plain numbers there is no float to leave out
mutual
  unfolding ArePlain

  pub blank_plain : (j : json.Json) → ArePlain (json_tokens j) → blank j ≡ j
  blank_plain json.null h = refl
  blank_plain (json.boolean b) h = refl
  blank_plain (json.number s) h = ap json.number h.0
  blank_plain (json.string s) h = refl
  blank_plain (json.array js) h = ap json.array (blank_items_plain js h.1)
  blank_plain (json.object ms) h = ap json.object (blank_members_plain ms h.1)

  blank_items_plain : (js : json.Items) → ArePlain (items_tokens js) → blank_items js ≡ js
  blank_items_plain json.no_items h = refl
  blank_items_plain (json.item j js) h = ap₂ json.item (blank_plain j (plain_front (json_tokens j) _ h))
      (blank_items_plain js (plain_rest (json_tokens j) _ h))

  blank_members_plain : (ms : json.Members) → ArePlain (members_tokens ms) → blank_members ms ≡ ms
  blank_members_plain json.no_members h = refl
  blank_members_plain (json.member k j ms) h = ap₂ (json.member k) (blank_plain j (plain_front (json_tokens j) _ h.1))
      (blank_members_plain ms (plain_rest (json_tokens j) _ h.1))
