-- One saved zone more, of a function that joins what each zone gives
use Rattle.std.proofs.Common.{◌≡◌, ℕ, ◌+◌, ◌<◌, ◌≤◌, List, [], ◌∷◌, ◌++◌, length, take, drop, get_or, sym, ap, ap₂, ◌∙◌}
use Rattle.std.proofs.Common.{arith, append_assoc, Some}
use Rattle.std.specs.Prelude.{slice_get}
use Rattle.std.proofs.lemmas.List.{take_more, take-append-drop, take_all}
use Rattle.std.proofs.lemmas.Option.{slice_get-get_or}

-- the item at a place
pub record ItemAt {A : Type 0} (xs : List A) (i : ℕ) : Type 0 where
  pub item : A
  pub here : slice_get xs i ≡ Some item
  pub more : take (i + 1) xs ≡ take i xs ++ item ∷ []

pub item-at : {A : Type 0} (xs : List A) (i : ℕ) → i < length xs → ItemAt xs i
item-at {A} [] i lt = absurd (omega (arith, lt))
item-at {A} (x ∷ xs) i lt = record {
  item = get_or (x ∷ xs) i x;
  here = slice_get-get_or (x ∷ xs) i x lt;
  more = take_more (x ∷ xs) i x lt;
}

module _ {A B : Type 0} (f : List A → List B) (joins : (xs ys : List A) → f (xs ++ ys) ≡ f xs ++ f ys) where
  pub joined-more : (xs : List A) (i : ℕ) (own : List B) → i < length xs
      → ((x : A) → slice_get xs i ≡ Some x → own ≡ f (x ∷ [])) → f (take (i + 1) xs) ≡ f (take i xs) ++ own
  joined-more xs i own lt gives =
      let at = item-at xs i lt in
      ap f at.more ∙ joins (take i xs) (at.item ∷ []) ∙ ap (λ (ys : List B). f (take i xs) ++ ys)
      (sym (gives at.item at.here))

  pub joined-all : (xs : List A) (i : ℕ) → f xs ≡ f (take i xs) ++ f (drop i xs)
  joined-all xs i = ap f (sym (take-append-drop i xs)) ∙ joins (take i xs) (drop i xs)

-- what is collected over the items so far, one item on
module _ {A B : Type 0} (f : List A → List B) (joins : (xs ys : List A) → f (xs ++ ys) ≡ f xs ++ f ys) where
  pub collected-more : (xs : List A) (i : ℕ) (front old new own : List B) → i < length xs
      → ((x : A) → slice_get xs i ≡ Some x → own ≡ f (x ∷ [])) → old ≡ front ++ f (take i xs) → new ≡ old ++ own
      → new ≡ front ++ f (take (i + 1) xs)
  collected-more xs i front old new own lt gives was pushed =
      pushed ∙ ap (λ (ys : List B). ys ++ own) was ∙ append_assoc front (f (take i xs)) own
      ∙ ap (λ (ys : List B). front ++ ys) (sym (joined-more f joins xs i own lt gives))

  pub collected-all : (xs : List A) (i : ℕ) (front all : List B) → length xs ≤ i → all ≡ front ++ f (take i xs)
      → all ≡ front ++ f xs
  collected-all xs i front all past e = e ∙ ap (λ (ys : List A). front ++ f ys) (take_all i xs past)

-- one item more, of a function that adds up what each item gives
module _ {A C : Type 0} (f : List A → C) (op : C → C → C) (joins : (xs ys : List A) → f (xs ++ ys) ≡ op (f xs) (f ys))
  where
    pub added-more : (xs : List A) (i : ℕ) (old own : C) → i < length xs
        → ((x : A) → slice_get xs i ≡ Some x → own ≡ f (x ∷ [])) → old ≡ f (take i xs)
        → op old own ≡ f (take (i + 1) xs)
    added-more xs i old own lt gives was =
        let at = item-at xs i lt in
        ap₂ op was (gives at.item at.here) ∙ sym (ap f at.more ∙ joins (take i xs) (at.item ∷ []))
