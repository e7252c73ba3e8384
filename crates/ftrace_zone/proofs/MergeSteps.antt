-- The merge, one head after another
use Rattle.std.proofs.Common.{◌≡◌, ℕ, suc, ◌+◌, ◌-◌, ◌<◌, ◌≤◌, List, [], ◌∷◌, ◌++◌, length, get_or, take, drop, map}
use Rattle.std.proofs.Common.{refl, sym, ap, ap₂, ◌∙◌, arith, add-one, inl, inr, append_assoc, append-nil, length-drop}
use Rattle.std.proofs.Math.Seq.{drop-cons}
use Rattle.std.proofs.Math.ListN.{drop_of_length-le}
use Rattle.std.proofs.lemmas.List.{map-append}
use Rattle.std.proofs.lemmas.Grind.{common_steps}
use Rattle.std.proofs.lemmas.Bool.Decides.{leb_tells}
use Rattle.std.proofs.lemmas.Bool.{le-leb, lt-leb}
use Rattle.zone_spec.specs.Ftrace.{entry_time, merge}
use Rattle.ftrace_zone.specs.declared.Entry.{Entry}
use Rattle.ftrace_zone.specs.EntryBytes.{entry_bytes}

-- what two lists of entries merge to, as bytes
abbrev pub merge_of : List Entry → List Entry → List (List ℕ)
merge_of left right = merge (map entry_bytes left) (map entry_bytes right)

later_first : (x y : Entry) (xs ys : List Entry) → entry_time (entry_bytes y) ≤ entry_time (entry_bytes x)
    → merge_of (x ∷ xs) (y ∷ ys) ≡ entry_bytes y ∷ merge_of (x ∷ xs) ys
later_first x y xs ys le = rw (le-leb (entry_time (entry_bytes y)) (entry_time (entry_bytes x)) le) refl

earlier_first : (x y : Entry) (xs ys : List Entry) → entry_time (entry_bytes x) < entry_time (entry_bytes y)
    → merge_of (x ∷ xs) (y ∷ ys) ≡ entry_bytes x ∷ merge_of xs (y ∷ ys)
earlier_first x y xs ys lt = rw (lt-leb (entry_time (entry_bytes y)) (entry_time (entry_bytes x)) lt) refl

merge-nil : (xs : List (List ℕ)) → merge xs [] ≡ xs
merge-nil [] = refl
merge-nil (x ∷ xs) = ap (λ (ys : List (List ℕ)). x ∷ ys) (merge-nil xs)

-- what is merged so far, and what is left of either list
pub record IsMerged (left right merged : List Entry) (i j : ℕ) : Type 0 where
  pub bytes : map entry_bytes merged ++ merge_of (drop i left) (drop j right) ≡ merge_of left right

appended : (merged : List Entry) (e : Entry) (rest : List (List ℕ))
    → map entry_bytes (merged ++ e ∷ []) ++ rest ≡ map entry_bytes merged ++ (entry_bytes e ∷ rest)
appended merged e rest = rw (map-append entry_bytes merged (e ∷ []))
    (append_assoc (map entry_bytes merged) (entry_bytes e ∷ []) rest)

head_of : (xs : List Entry) (i : ℕ) (d : Entry) → i < length xs → drop i xs ≡ get_or xs i d ∷ drop (i + 1) xs
head_of xs i d lt = drop-cons xs i d lt ∙ rw (add-one i) refl

-- one entry more, of the later zone or of the earlier one
pub IsMerged-later : (left right merged more : List Entry) (i j : ℕ) (d : Entry) → IsMerged left right merged i j
    → i < length left → j < length right →
    entry_time (entry_bytes (get_or right j d)) ≤ entry_time (entry_bytes (get_or left i d))
    → more ≡ merged ++ get_or right j d ∷ [] → IsMerged left right more i (j + 1)
IsMerged-later left right merged more i j d so_far il jl le pushed =
    let heads : merge_of (drop i left) (drop j right) ≡ entry_bytes (get_or right j d) ∷ merge_of (drop i left)
    (drop (j + 1) right) =
    ap₂ (λ (xs ys : List Entry). merge_of xs ys) (head_of left i d il) (head_of right j d jl)
    ∙ later_first (get_or left i d) (get_or right j d) (drop (i + 1) left) (drop (j + 1) right) le
    ∙ ap (λ (xs : List Entry). entry_bytes (get_or right j d) ∷ merge_of xs (drop (j + 1) right))
    (sym (head_of left i d il)) in
    record {
      bytes = rw pushed (appended merged (get_or right j d) (merge_of (drop i left) (drop (j + 1) right))
          ∙ ap (λ (rest : List (List ℕ)). map entry_bytes merged ++ rest) (sym heads) ∙ so_far.bytes);
    }

pub IsMerged-earlier : (left right merged more : List Entry) (i j : ℕ) (d : Entry) → IsMerged left right merged i j
    → i < length left → j < length right →
    entry_time (entry_bytes (get_or left i d)) < entry_time (entry_bytes (get_or right j d))
    → more ≡ merged ++ get_or left i d ∷ [] → IsMerged left right more (i + 1) j
IsMerged-earlier left right merged more i j d so_far il jl lt pushed =
    let heads : merge_of (drop i left) (drop j right) ≡ entry_bytes (get_or left i d) ∷ merge_of (drop (i + 1) left)
    (drop j right) =
    ap₂ (λ (xs ys : List Entry). merge_of xs ys) (head_of left i d il) (head_of right j d jl)
    ∙ earlier_first (get_or left i d) (get_or right j d) (drop (i + 1) left) (drop (j + 1) right) lt
    ∙ ap (λ (ys : List Entry). entry_bytes (get_or left i d) ∷ merge_of (drop (i + 1) left) ys)
    (sym (head_of right j d jl)) in
    record {
      bytes = rw pushed (appended merged (get_or left i d) (merge_of (drop (i + 1) left) (drop j right))
          ∙ ap (λ (rest : List (List ℕ)). map entry_bytes merged ++ rest) (sym heads) ∙ so_far.bytes);
    }

left_done : (xs ys : List Entry) → xs ≡ [] → merge_of xs ys ≡ map entry_bytes xs ++ map entry_bytes ys
left_done xs ys e = rw e refl

right_done : (xs ys : List Entry) → ys ≡ [] → merge_of xs ys ≡ map entry_bytes xs ++ map entry_bytes ys
right_done xs ys e = rw e (merge-nil (map entry_bytes xs) ∙ sym (append-nil (map entry_bytes xs)))

one_done : (left right : List Entry) (i j : ℕ) → (i < length left → j < length right → ⊥)
    → merge_of (drop i left) (drop j right) ≡ map entry_bytes (drop i left) ++ map entry_bytes (drop j right)
one_done left right i j ended = elim (leb_tells (suc i) (length left)) [
  | inl more ↦ elim (leb_tells (suc j) (length right)) [
    | inl more_right ↦ absurd (ended more.1 more_right.1)
    | inr none_right ↦ right_done (drop i left) (drop j right)
        (drop_of_length-le right {i = j} (omega (arith, none_right.1)))
  ]
  | inr none ↦ left_done (drop i left) (drop j right) (drop_of_length-le left {i = i} (omega (arith, none.1)))
]

-- where a list is at its end, the rests are appended
pub IsMerged-end : (left right merged : List Entry) (i j : ℕ) → IsMerged left right merged i j
    → (i < length left → j < length right → ⊥) → map entry_bytes ((merged ++ drop i left) ++ drop j right)
    ≡ merge_of left right
IsMerged-end left right merged i j so_far ended =
    map-append entry_bytes (merged ++ drop i left) (drop j right)
    ∙ ap (λ (bs : List (List ℕ)). bs ++ map entry_bytes (drop j right)) (map-append entry_bytes merged (drop i left))
    ∙ append_assoc (map entry_bytes merged) (map entry_bytes (drop i left)) (map entry_bytes (drop j right))
    ∙ ap (λ (rest : List (List ℕ)). map entry_bytes merged ++ rest) (sym (one_done left right i j ended))
    ∙ so_far.bytes

pub cut : (from : ℕ) (xs : List Entry) → take (length xs - from) (drop from xs) ≡ drop from xs
cut from xs = take_all (drop from xs) (length xs - from) (omega (arith, length-drop from xs))
  where
    take_all : (ys : List Entry) (n : ℕ) → length ys ≤ n → take n ys ≡ ys
    take_all ys n le = grind (arith, common_steps)
