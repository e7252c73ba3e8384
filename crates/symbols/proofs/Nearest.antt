-- The nearest function, whatever the order of the list
use Rattle.std.proofs.Common.{◌≡◌, ℕ, zero, suc, ◌+◌, ◌*◌, ◌-◌, ◌^◌, ◌<◌, ◌≤◌, ◌==◌, Bool, true, false, ◌&&◌, ◌||◌}
use Rattle.std.proofs.Common.{cond, nat_lt, nat_le, List, [], ◌∷◌, length, get_or, Option, Some, None, refl, ap, sym}
use Rattle.std.proofs.Common.{subst, ◌∙◌, ◌⊎◌, inl, inr, arith}
use Rattle.std.proofs.lemmas.Bool.Decides.{nat_tests}
use Rattle.std.proofs.lemmas.Bool.{cases_lt}
use Rattle.std.proofs.lemmas.List.{get_or_default}
use Rattle.std.proofs.lemmas.List.Elements.{All-cons, All-contains}
use Rattle.std.proofs.lemmas.List.Sorted.{All-permutation, Contains-permutation}
use Rattle.std.specs.List.{All, Contains}
use Rattle.std.specs.List.Sorted.{IsNonDecreasingBy, IsPermutation}
use Rattle.symbol_spec.specs.declared.Symbol.{Symbol}
use Rattle.symbol_spec.specs.Functions.{is_nearer, is_nearer_than, nearer_of, function_in}
use Rattle.symbols.specs.Ranks.{rank, IsInside, IsRanked}

-- a function of the list at or below the address, if there is one
abbrev pub IsFound : List Symbol → ℕ → Option Symbol → Type 0
IsFound symbols address None = Unit {0}
IsFound symbols address (Some s) = Contains symbols s × (s.address ≤ address)

abbrev pub IsNoNearer : ℕ → Option Symbol → Symbol → Type 0
IsNoNearer address found t = t.address ≤ address → is_nearer_than t found ≡ false

-- it is one, and none at or below the address is nearer
pub record IsNearest (symbols : List Symbol) (address : ℕ) (found : Option Symbol) : Type 0 where
  pub is_found : IsFound symbols address found
  pub nearest : All (IsNoNearer address found) symbols

-- ---- what the definition finds

-- nothing is nearer than what is nearer
nearer_yet : (s t : Symbol) (held : Option Symbol) → is_nearer_than s held ≡ true → is_nearer_than t held ≡ false
    → is_nearer t s ≡ false
nearer_yet s t None e f = absurd (cc)
nearer_yet s t (Some held) e f = grind (arith, nat_tests, e, f)

not_nearer_itself : (s : Symbol) → is_nearer s s ≡ false
not_nearer_itself s = grind (arith, nat_tests)

found_more : (s : Symbol) (symbols : List Symbol) (address : ℕ) (found : Option Symbol)
    → IsFound symbols address found → IsFound (s ∷ symbols) address found
found_more s symbols address None h = tt
found_more s symbols address (Some t) h = ((suc h.0.0, omega (arith, h.0.1), h.0.2), h.1)

more : (s : Symbol) (symbols : List Symbol) (address : ℕ) (found : Option Symbol)
    → IsNearest symbols address found → IsNearest (s ∷ symbols) address (nearer_of address s found)
more s symbols address found h = by (nat_le s.address address) refl (is_nearer_than s found) refl
  where
    by : (a : Bool) → nat_le s.address address ≡ a → (b : Bool) → is_nearer_than s found ≡ b
        → IsNearest (s ∷ symbols) address (cond (a && b) (Some s) found)
    by true e true f = record {
      is_found = ((0, omega arith, refl), grind (arith, nat_tests, e));
      nearest = All-cons (IsNoNearer address (Some s)) s symbols (λ le. not_nearer_itself s)
          (λ k d lt le. nearer_yet s (get_or symbols k d) found f (h.nearest k d lt le));
    }
    by true e false f = record {
      is_found = found_more s symbols address found h.is_found;
      nearest = All-cons (IsNoNearer address found) s symbols (λ le. f) h.nearest;
    }
    by false e b f = record {
      is_found = found_more s symbols address found h.is_found;
      nearest = All-cons (IsNoNearer address found) s symbols (λ le. absurd (grind (arith, nat_tests, e, le))) h.nearest;
    }

pub nearest : (symbols : List Symbol) (address : ℕ) → IsNearest symbols address (function_in symbols address)
unfolding function_in
nearest [] address = record { is_found = tt; nearest = λ k d h le. absurd (omega (arith, h)) }
nearest (s ∷ symbols) address = more s symbols address (function_in symbols address) (nearest symbols address)

-- ---- there is one alone

abbrev at_place : ℕ → ℕ → Symbol
at_place address name = record { address = address; name = name }

one_of : (s t : Symbol) → is_nearer s t ≡ false → is_nearer t s ≡ false → s ≡ t
one_of s t e f =
    let address : s.address ≡ t.address = grind (arith, nat_tests, e, f) in
    let name : s.name ≡ t.name = grind (arith, nat_tests, e, f) in
    ap (λ a. at_place a s.name) address ∙ ap (at_place t.address) name

-- what is found is no nearer than what is nearest
no_nearer : (symbols : List Symbol) (address : ℕ) (s : Symbol) (found : Option Symbol)
    → IsFound symbols address (Some s) → All (IsNoNearer address found) symbols → is_nearer_than s found ≡ false
no_nearer symbols address s found h all = All-contains (IsNoNearer address found) symbols s all h.0 h.1

pub only_one : (symbols : List Symbol) (address : ℕ) (a b : Option Symbol) → IsNearest symbols address a
    → IsNearest symbols address b → a ≡ b
only_one symbols address None None h g = refl
only_one symbols address None (Some t) h g =
    let f : is_nearer_than t None ≡ false = no_nearer symbols address t None g.is_found h.nearest in absurd (cc)
only_one symbols address (Some s) None h g =
    let f : is_nearer_than s None ≡ false = no_nearer symbols address s None h.is_found g.nearest in absurd (cc)
only_one symbols address (Some s) (Some t) h g =
    ap Some (one_of s t (no_nearer symbols address s (Some t) h.is_found g.nearest)
    (no_nearer symbols address t (Some s) g.is_found h.nearest))

-- ---- in any order

found_among : (xs ys : List Symbol) (address : ℕ) (found : Option Symbol) → IsPermutation xs ys
    → IsFound xs address found → IsFound ys address found
found_among xs ys address None same h = tt
found_among xs ys address (Some s) same h = (Contains-permutation xs ys s same h.0, h.1)

pub reordered : (xs ys : List Symbol) (address : ℕ) → IsPermutation xs ys
    → function_in ys address ≡ function_in xs address
reordered xs ys address same =
    let n : IsNearest xs address (function_in xs address) = nearest xs address in
    only_one ys address (function_in ys address) (function_in xs address) (nearest ys address)
    (record {
      is_found = found_among xs ys address (function_in xs address) same n.is_found;
      nearest = All-permutation (IsNoNearer address (function_in xs address)) xs ys same n.nearest;
    })

-- ---- in ranks

-- ranks say which is nearer
by_ranks : (s t : Symbol) → IsInside s → IsInside t → rank s ≤ rank t → is_nearer s t ≡ false
by_ranks s t h g le = grind (arith, nat_tests, le, h, g)

by_addresses : (s t : Symbol) → IsInside s → IsInside t → rank s ≤ rank t → s.address ≤ t.address
by_addresses s t h g le = omega (arith, le, h, g)

pub addresses_rise : (xs : List Symbol) → IsRanked xs → IsNonDecreasingBy (λ (s : Symbol). s.address) xs
addresses_rise xs r = λ i j d low high.
    by_addresses (get_or xs i d) (get_or xs j d) (r.inside i d (omega arith)) (r.inside j d high)
    (r.ranked i j d low high)

pub none_below : (xs : List Symbol) (address : ℕ)
    → ((k : ℕ) (d : Symbol) → k < length xs → address < (get_or xs k d).address) → None ≡ function_in xs address
none_below xs address above =
    only_one xs address None (function_in xs address)
    (record {
      is_found = tt;
      nearest = λ k d h le. absurd (omega (arith, above k d h));
    })
    (nearest xs address)

-- the last one that is not above the address
pub last_below : (xs : List Symbol) (address count : ℕ) (s : Symbol) → IsRanked xs → 0 < count → count ≤ length xs
    → ((k : ℕ) (d : Symbol) → k < count → (get_or xs k d).address ≤ address)
    → ((k : ℕ) (d : Symbol) → count ≤ k → k < length xs → address < (get_or xs k d).address)
    → get_or xs (count - 1) s ≡ s → Some s ≡ function_in xs address
last_below xs address count s r positive within below above is =
    only_one xs address (Some s) (function_in xs address)
    (record {
      is_found = (
        (count - 1, omega arith, is),
        subst (λ (t : Symbol). t.address ≤ address) is (below (count - 1) s (omega arith)),
      );
      nearest = λ k d h le. by k d h le (cases_lt k count);
    })
    (nearest xs address)
  where
    by : (k : ℕ) (d : Symbol) → k < length xs → (get_or xs k d).address ≤ address → (k < count) ⊎ (count ≤ k)
        → is_nearer (get_or xs k d) s ≡ false
    by k d h le (inl low) =
        subst (λ (t : Symbol). is_nearer (get_or xs k d) t ≡ false)
        (get_or_default xs (count - 1) d s (omega arith) ∙ is)
        (by_ranks (get_or xs k d) (get_or xs (count - 1) d) (r.inside k d h) (r.inside (count - 1) d (omega arith))
        (r.ranked k (count - 1) d (omega arith) (omega arith)))
    by k d h le (inr high) = absurd (omega (arith, above k d high h))
