-- One entry after the other
use Rattle.std.proofs.Common.{◌≡◌, ℕ, zero, suc, ◌+◌, ◌-◌, ◌<◌, ◌≤◌, ◌==◌, Bool, true, false, ◌&&◌, cond, nat_le}
use Rattle.std.proofs.Common.{nat_lt, List, [], ◌∷◌, length, drop, get_or, refl, ap, sym, ◌∙◌, arith, add-one}
use Rattle.std.proofs.Common.{drop-cons}
use Rattle.std.proofs.lemmas.Bool.Decides.{nat_tests}
use Rattle.std.proofs.lemmas.List.{drop_all, drop-drop}
use Rattle.pmsg_spec.specs.declared.Entry.{Entry}
use Rattle.pmsg_spec.specs.Entries.{entry_len, is_entry, entry_of, go_on, are_entries, listed, entries_from}

-- ---- the length of an entry

pub record Fits (bytes : List ℕ) : Type 0 where
  pub least : 18 ≤ entry_len bytes
  pub within : entry_len bytes ≤ length bytes

pub fits : (bytes : List ℕ) → is_entry bytes ≡ true → Fits bytes
unfolding is_entry
fits bytes e = record { least = grind (arith, nat_tests, e); within = grind (arith, nat_tests, e) }

-- ---- the rest of an entry is passed over

go_on_skip : (rest : ℕ) (bs : List ℕ) → rest ≤ length bs → go_on rest bs ≡ go_on 0 (drop rest bs)
unfolding go_on
go_on_skip zero bs h = refl
go_on_skip (suc rest) [] h = absurd (omega (arith, h))
go_on_skip (suc rest) (b ∷ bs) h = go_on_skip rest bs (omega (arith, h))

listed_skip : (at rest : ℕ) (bs : List ℕ) → listed at rest bs ≡ listed (at + rest) 0 (drop rest bs)
unfolding listed
listed_skip at zero bs = ap (λ k. listed k 0 bs) (omega arith)
listed_skip at (suc rest) [] = refl
listed_skip at (suc rest) (b ∷ bs) =
    listed_skip (at + 1) rest bs ∙ ap (λ k. listed k 0 (drop rest bs)) (omega arith)

drop_less : (n b : ℕ) (bs : List ℕ) → 0 < n → drop (n - 1) bs ≡ drop n (b ∷ bs)
drop_less zero b bs h = absurd (omega (arith, h))
drop_less (suc n) b bs h = ap (λ k. drop k bs) (omega arith)

-- ---- an entry at the front

pub follow_yes : (xs : List ℕ) → is_entry xs ≡ true → are_entries xs ≡ are_entries (drop (entry_len xs) xs)
unfolding go_on is_entry
follow_yes [] e = absurd (cc)
follow_yes (b ∷ bs) e =
    let f : Fits (b ∷ bs) = fits (b ∷ bs) e in
    ap (λ t. t && go_on (entry_len (b ∷ bs) - 1) bs) e
    ∙ go_on_skip (entry_len (b ∷ bs) - 1) bs (omega (arith, f.least, f.within))
    ∙ ap (go_on 0) (drop_less (entry_len (b ∷ bs)) b bs (omega (arith, f.least)))

pub follow_no : (xs : List ℕ) → 0 < length xs → is_entry xs ≡ false → are_entries xs ≡ false
unfolding go_on
follow_no [] h e = absurd (omega (arith, h))
follow_no (b ∷ bs) h e = ap (λ t. t && go_on (entry_len (b ∷ bs) - 1) bs) e

pub stands : (xs : List ℕ) → 0 < length xs → are_entries xs ≡ true → is_entry xs ≡ true
stands xs h e = by (is_entry xs) refl
  where
    by : (t : Bool) → is_entry xs ≡ t → is_entry xs ≡ true
    by true g = g
    by false g = let f : are_entries xs ≡ false = follow_no xs h g in absurd (cc)

pub listed_step : (at : ℕ) (xs : List ℕ) → is_entry xs ≡ true
    → listed at 0 xs ≡ entry_of at xs ∷ listed (at + entry_len xs) 0 (drop (entry_len xs) xs)
unfolding listed is_entry
listed_step at [] e = absurd (cc)
listed_step at (b ∷ bs) e =
    let f : Fits (b ∷ bs) = fits (b ∷ bs) e in
    let n : ℕ = entry_len (b ∷ bs) in
    ap (λ rest. entry_of at (b ∷ bs) ∷ rest)
    (listed_skip (at + 1) (n - 1) bs
    ∙ ap (λ k. listed k 0 (drop (n - 1) bs)) (omega (arith, f.least))
    ∙ ap (listed (at + n) 0) (drop_less n b bs (omega (arith, f.least))))

-- the same of what stands from a place on
pub follow_here : (at : ℕ) (bytes : List ℕ) → is_entry (drop at bytes) ≡ true
    → are_entries (drop at bytes) ≡ are_entries (drop (at + entry_len (drop at bytes)) bytes)
follow_here at bytes e =
    follow_yes (drop at bytes) e ∙ ap are_entries (drop-drop (entry_len (drop at bytes)) at bytes)

pub listed_here : (at : ℕ) (bytes : List ℕ) → is_entry (drop at bytes) ≡ true
    → listed at 0 (drop at bytes)
    ≡ entry_of at (drop at bytes)
    ∷ listed (at + entry_len (drop at bytes)) 0 (drop (at + entry_len (drop at bytes)) bytes)
listed_here at bytes e =
    listed_step at (drop at bytes) e
    ∙ ap (λ rest. entry_of at (drop at bytes) ∷ listed (at + entry_len (drop at bytes)) 0 rest)
    (drop-drop (entry_len (drop at bytes)) at bytes)

-- ---- the first place

pub from_here : (at : ℕ) (bytes : List ℕ) → at < length bytes → are_entries (drop at bytes) ≡ true
    → entries_from at (drop at bytes) ≡ listed at 0 (drop at bytes)
unfolding entries_from
from_here at bytes h e = at_front (drop at bytes) (get_or bytes at 0) (drop (suc at) bytes) (drop-cons bytes at 0 h) e
  where
    at_front : (xs : List ℕ) (b : ℕ) (bs : List ℕ) → xs ≡ b ∷ bs → are_entries xs ≡ true
        → entries_from at xs ≡ listed at 0 xs
    at_front xs b bs g f =
        ap (entries_from at) g
        ∙ ap (λ t. cond t (listed at 0 (b ∷ bs)) (entries_from (at + 1) bs)) (ap are_entries (sym g) ∙ f)
        ∙ ap (listed at 0) (sym g)

pub from_behind : (at : ℕ) (bytes : List ℕ) → at < length bytes → are_entries (drop at bytes) ≡ false
    → entries_from at (drop at bytes) ≡ entries_from (at + 1) (drop (at + 1) bytes)
unfolding entries_from
from_behind at bytes h e =
    at_front (drop at bytes) (get_or bytes at 0) (drop (suc at) bytes) (drop-cons bytes at 0 h) e
    ∙ ap (λ k. entries_from (at + 1) (drop k bytes)) (sym (add-one at))
  where
    at_front : (xs : List ℕ) (b : ℕ) (bs : List ℕ) → xs ≡ b ∷ bs → are_entries xs ≡ false
        → entries_from at xs ≡ entries_from (at + 1) bs
    at_front xs b bs g f =
        ap (entries_from at) g
        ∙ ap (λ t. cond t (listed at 0 (b ∷ bs)) (entries_from (at + 1) bs)) (ap are_entries (sym g) ∙ f)

-- ---- the end

pub none_follow : (n : ℕ) (bytes : List ℕ) → length bytes ≤ n → are_entries (drop n bytes) ≡ true
unfolding go_on
none_follow n bytes h = ap (go_on 0) (drop_all n bytes h)

pub none_from : (n : ℕ) (bytes : List ℕ) → length bytes ≤ n → entries_from n (drop n bytes) ≡ listed n 0 (drop n bytes)
unfolding entries_from listed
none_from n bytes h = ap (entries_from n) (drop_all n bytes h) ∙ sym (ap (listed n 0) (drop_all n bytes h))

pub none_listed : (n : ℕ) (bytes : List ℕ) → length bytes ≤ n → listed n 0 (drop n bytes) ≡ []
unfolding listed
none_listed n bytes h = ap (listed n 0) (drop_all n bytes h)
