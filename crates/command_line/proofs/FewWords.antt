-- Parameters without a fault are no more than keys
use Rattle.std.proofs.Common.{◌≡◌, ℕ, zero, suc, ◌+◌, ◌<◌, ◌≤◌, Bool, true, false, if◌then◌else◌, List, [], ◌∷◌, length}
use Rattle.std.proofs.Common.{take, drop, get_or, refl, sym, ◌∙◌, arith, add-one, subst, Option, Some, None, Ok}
use Rattle.std.proofs.Common.{string_bytes, String, Global}
use Rattle.std.proofs.lemmas.List.{length-map, length-take}
use Rattle.std.specs.List.{list_any}
use Rattle.grammar_spec.specs.declared.faults.ParamFault.{ParamFault}
use Rattle.grammar_spec.specs.Words.{KeyTable, has_key, word_fault, first_fault, either, texts, ok_unless}
use Rattle.grammar_spec.specs.ZoneWords.{keys, read_of, params_of}
use Rattle.zone_spec.specs.declared.params.Params.{Params}
use Rattle.ramoops_layout.proofs.WordLaws.{Words}
use Rattle.ramoops_layout.proofs.DistinctKeys.{passing, keys_in, apart, next_fault}

item : (words : Words) (i : ℕ) → i < length words → (w : String Global) × (w ≡ get_or words i w)
item [] i h = absurd (omega (arith, h))
item (x ∷ xs) zero h = (x, refl)
item (x ∷ xs) (suc i) h = item xs i (omega (arith, h))

neither : (a b : Option ParamFault) → either a b ≡ None → (a ≡ None) × (b ≡ None)
neither None b h = (refl, h)
neither (Some f) b h = cc

length_taken : (words : Words) (i : ℕ) → i ≤ length words → length (texts (take i words)) ≡ i
length_taken words i h = simp (length-map, length-take) (omega arith)

-- the words so far have no fault, and keys of their own
record Faultless (table : KeyTable) (words : Words) (i : ℕ) : Type 0 where
  none : first_fault table (texts (take i words)) (texts (drop i words)) ≡ None
  own : i ≤ keys_in table (texts (take i words))

next : (table : KeyTable) (words : Words) (i : ℕ) → i < length words → Faultless table words i
    → Faultless table words (i + 1)
next table words i h so_far =
    let w = item words i h in
    let split = next_fault table words i w.0 h w.1 (length_taken words i (omega (arith, h))) in
    let both = neither (word_fault table (texts (take i words)) i (string_bytes w.0)) _ (sym split ∙ so_far.none) in
    record { none = both.1; own = apart table words i i w.0 h w.1 (sym both.0) so_far.own }

first : (table : KeyTable) (words : Words) → first_fault table [] (texts words) ≡ None → Faultless table words 0
first table words none = record { none = none; own = omega arith }

all : (table : KeyTable) (words : Words) (i : ℕ) → i ≤ length words → first_fault table [] (texts words) ≡ None
    → Faultless table words i
all table words zero h none = first table words none
all table words (suc i) h none =
    subst (Faultless table words) (add-one i) (next table words i (omega (arith, h))
    (all table words i (omega (arith, h)) none))

one_at_most : (a : Bool) (m n : ℕ) → m ≤ n → (if a then 1 else 0) + m ≤ suc n
one_at_most true m n h = omega arith
one_at_most false m n h = omega arith

passing_at_most : {X : Type 0} (p : X → Bool) (xs : List X) → passing p xs ≤ length xs
passing_at_most p [] = omega arith
passing_at_most p (x ∷ xs) = one_at_most (p x) (passing p xs) (length xs) (passing_at_most p xs)

keys_few : (words : List (List ℕ)) → keys_in keys words ≤ 15
unfolding keys_in
keys_few words = passing_at_most (λ key. list_any (has_key keys key) words) keys.names

read_none : (o : Option ParamFault) (read p : Params) → Ok p ≡ ok_unless o read → o ≡ None
read_none None read p h = refl
read_none (Some f) read p h = cc

-- words that were read as parameters
pub few_words : (words : Words) (p : Params) → Ok p ≡ read_of words → length words ≤ 15
few_words words p read =
    let none = read_none (first_fault keys [] (texts words)) (params_of (texts words)) p read in
    omega (
      arith,
      (all keys words (length words) (omega arith) none).own,
      keys_few (texts (take (length words) words)),
    )
