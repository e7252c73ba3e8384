-- What data puts onto a line
use Rattle.std.proofs.Common.{◌≡◌, ◌∙◌, ℕ, zero, suc, ◌+◌, List, [], ◌∷◌, ◌++◌, reverse, refl, ap, sym, subst, append_assoc, add-one}
use Rattle.std.specs.Prelude.{replicate}
use Rattle.std.proofs.lemmas.List.{reverse-append}
use Rattle.json.specs.Token.{Token}
use Rattle.json.specs.Lex.{tokens}
use Rattle.json.specs.Tree.{json_tokens, items_tokens, members_tokens}
use Rattle.serde_json.specs.Data.{Data, null, boolean, number, string, array, object, Items, no_items, item, Members, no_members, member}
use Rattle.serde_json.specs.View.{items_of}
use Rattle.serde_json.specs.Written.{outline, items_outline, members_outline, IsInOrder}
use Rattle.report_json.specs.Tokens.{onto, items_onto, members_onto, all_onto, ArePlain}
use Rattle.report_json.proofs.Plain.{blank_plain}

-- ---- lists

pub array_onto : (ds : List Data) (ts : List Token) → items_onto (items_of ds) ts ≡ Token.end_array ∷ all_onto ds ts
array_onto [] ts = refl
array_onto (d ∷ ds) ts = array_onto ds (onto d ts)

pub all_append : (ds es : List Data) (ts : List Token) → all_onto (ds ++ es) ts ≡ all_onto es (all_onto ds ts)
all_append [] es ts = refl
all_append (d ∷ ds) es ts = all_append ds es (onto d ts)

null_last : (n : ℕ) (ts : List Token) → all_onto (replicate (suc n) null) ts ≡ Token.null ∷ all_onto (replicate n null) ts
null_last zero ts = refl
null_last (suc n) ts = null_last n (Token.null ∷ ts)

pub one_more_null : (n : ℕ) (ts : List Token) → all_onto (replicate (n + 1) null) ts
    ≡ Token.null ∷ all_onto (replicate n null) ts
one_more_null n ts = rw add-one (null_last n ts)

pub ruleset arrays = (array_onto, all_append, one_more_null)

-- a member after what stands on the line
pub then_member : (k : List ℕ) (x y : Data) (old line new : List Token) → new ≡ onto x (Token.key k ∷ old) → old ≡ line
    → x ≡ y → new ≡ onto y (Token.key k ∷ line)
then_member k x y old line new put same is = put ∙ ap (λ (ts : List Token). onto x (Token.key k ∷ ts)) same
    ∙ ap (λ (d : Data). onto d (Token.key k ∷ line)) is

-- ---- the tokens of the data, in their order

one_on : (t : Token) (ts : List Token) → reverse (t ∷ ts) ≡ reverse ts ++ t ∷ []
one_on t ts = reverse-append (t ∷ []) ts

-- a token, and then others
then : (t : Token) (ts us : List Token) → reverse (t ∷ ts) ++ us ≡ reverse ts ++ t ∷ us
then t ts us = ap (λ vs. vs ++ us) (one_on t ts) ∙ append_assoc (reverse ts) (t ∷ []) us

mutual
  pub reverse-onto : (d : Data) (ts : List Token) → reverse (onto d ts) ≡ reverse ts ++ json_tokens (outline d)
  reverse-onto null ts = one_on _ ts
  reverse-onto (boolean b) ts = one_on _ ts
  reverse-onto (number n) ts = one_on _ ts
  reverse-onto (string s) ts = one_on _ ts
  reverse-onto (array ds) ts = reverse-items ds (Token.begin_array ∷ ts) ∙ then Token.begin_array ts _
  reverse-onto (object ms) ts = reverse-members ms (Token.begin_object ∷ ts) ∙ then Token.begin_object ts _

  reverse-items : (ds : Items) (ts : List Token) → reverse (items_onto ds ts) ≡ reverse ts ++ items_tokens (items_outline ds)
  reverse-items no_items ts = one_on _ ts
  reverse-items (item d ds) ts = reverse-items ds (onto d ts) ∙ ap (λ us. us ++ items_tokens (items_outline ds)) (reverse-onto d ts)
      ∙ append_assoc (reverse ts) (json_tokens (outline d)) _

  reverse-members : (ms : Members) (ts : List Token) → reverse (members_onto ms ts)
      ≡ reverse ts ++ members_tokens (members_outline ms)
  reverse-members no_members ts = one_on _ ts
  reverse-members (member k d ms) ts = reverse-members ms (onto d (Token.key k ∷ ts))
      ∙ ap (λ us. us ++ members_tokens (members_outline ms)) (reverse-onto d (Token.key k ∷ ts))
      ∙ append_assoc (reverse (Token.key k ∷ ts)) (json_tokens (outline d)) _
      ∙ then (Token.key k) ts _

-- a text with just these tokens is the data
pub in_order : (text : List ℕ) (d : Data) (line : List Token) → line ≡ onto d [] → tokens text ≡ reverse line
    → ArePlain (reverse line) → IsInOrder text d
in_order text d line put read plain =
    let same : reverse line ≡ json_tokens (outline d) = ap reverse put ∙ reverse-onto d [] in
    (outline d, read ∙ same, blank_plain (outline d) (subst ArePlain same plain))
