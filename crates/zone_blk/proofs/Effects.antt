-- What the first bytes of writes make of a store
use Rattle.std.proofs.Common.{◌≡◌, ℕ, zero, suc, ◌+◌, ◌-◌, ◌^◌, ◌<◌, ◌≤◌, ◌==◌, min, Bool, true, false, if◌then◌else◌}
use Rattle.std.proofs.Common.{nat_le, List, [], ◌∷◌, ◌++◌, length, take, Option, Some, None, refl, sym, ap, ◌∙◌, arith}
use Rattle.std.proofs.Common.{◌⊎◌, inl, inr}
use Rattle.std.proofs.lemmas.Bool.{leb-true, leb-false, lt-leb, eqb-true}
use Rattle.std.proofs.lemmas.Bool.Decides.{nat_tests}
use Rattle.std.proofs.Math.Dec.{leb-zero}
use Rattle.blk_laws.proofs.Appends.{after-append}
use Rattle.blk_laws.proofs.Cuts.{first-all}
use Rattle.blk_spec.specs.declared.BlkCut.{BlkCut}
use Rattle.blk_spec.specs.declared.BlkCut.TheVariants.{Uncut, After, Dropped}
use Rattle.blk_spec.specs.Writes.{Write, after_writes, store_after, bytes_in, first_bytes, through, spent, asks_of}
use Rattle.blk_spec.specs.Answers.{further}

pub bytes_in-append : (vs ws : List Write) → bytes_in (vs ++ ws) ≡ bytes_in vs + bytes_in ws
unfolding bytes_in
bytes_in-append [] ws = omega arith
bytes_in-append (v ∷ vs) ws = omega (arith, bytes_in-append vs ws)

pub first-append : (n : ℕ) (vs ws : List Write) → first_bytes n (vs ++ ws)
    ≡ first_bytes n vs ++ first_bytes (n - bytes_in vs) ws
unfolding first_bytes bytes_in
first-append n [] ws = ap (λ k. first_bytes k ws) (omega arith)
first-append n (v ∷ vs) ws =
    ap (λ rest. record { at = v.at; bytes = take n v.bytes } ∷ rest)
    (first-append (n - length v.bytes) vs ws ∙ ap (λ k. first_bytes (n - length v.bytes) vs ++ first_bytes k ws)
    (omega arith))

-- a store after the first bytes of some writes, then of others
pub in-turn : (a b : ℕ) (vs ws : List Write) (store : List ℕ) → a ≤ bytes_in vs → (a ≡ bytes_in vs) ⊎ (b ≡ 0)
    → after_writes (first_bytes (a + b) (vs ++ ws)) store
    ≡ after_writes (first_bytes b ws) (after_writes (first_bytes a vs) store)
in-turn a b vs ws store h (inl e) =
    ap (λ x. after_writes x store) (first-append (a + b) vs ws)
    ∙ after-append (first_bytes (a + b) vs) (first_bytes (a + b - bytes_in vs) ws) store
    ∙ ap (λ x. after_writes (first_bytes (a + b - bytes_in vs) ws) (after_writes x store))
    (first-all (a + b) vs (omega arith) ∙ sym (first-all a vs (omega arith)))
    ∙ ap (λ k. after_writes (first_bytes k ws) (after_writes (first_bytes a vs) store)) (omega arith)
in-turn a b vs ws store h (inr e) =
    let k : a + b ≡ a = omega arith in
    let z : a + b - bytes_in vs ≡ b = omega arith in
    ap (λ x. after_writes x store) (first-append (a + b) vs ws)
    ∙ after-append (first_bytes (a + b) vs) (first_bytes (a + b - bytes_in vs) ws) store
    ∙ ap (λ n. after_writes (first_bytes (a + b - bytes_in vs) ws) (after_writes (first_bytes n vs) store)) k
    ∙ ap (λ n. after_writes (first_bytes n ws) (after_writes (first_bytes a vs) store)) z

pub in-turn-told : (a b : ℕ) (vs ws : List Write) (store : Option (List ℕ)) → a ≤ bytes_in vs
    → (a ≡ bytes_in vs) ⊎ (b ≡ 0)
    → store_after (first_bytes (a + b) (vs ++ ws)) store
    ≡ store_after (first_bytes b ws) (store_after (first_bytes a vs) store)
in-turn-told a b vs ws None h k = refl
in-turn-told a b vs ws (Some store) h k = ap Some (in-turn a b vs ws store h k)

-- what reaches the store of bytes and of more, and the cut behind them
pub through-more : (c : BlkCut) (a b : ℕ) → through c (a + b) ≡ through c a + through (spent a c) b
through-more Uncut a b = refl
through-more (After l) a b = both (nat_le a l) refl
  where
    both : (t : Bool) → nat_le a l ≡ t → min l (a + b) ≡ min l a + through (if t then After (l - a) else Dropped) b
    both true e = let h : a ≤ l = leb-true a l e in omega arith
    both false e = let h : l < a = leb-false a l e in omega arith
through-more Dropped a b = refl

pub spent-more : (c : BlkCut) (a b : ℕ) → spent (a + b) c ≡ spent b (spent a c)
spent-more Uncut a b = refl
spent-more (After l) a b = both (nat_le a l) refl
  where
    fits : nat_le a l ≡ true → (nat_le (a + b) l) ≡ nat_le b (l - a)
    fits e = let h : a ≤ l = leb-true a l e in grind (arith, nat_tests)

    both : (t : Bool) → nat_le a l ≡ t → (if nat_le (a + b) l then After (l - (a + b)) else Dropped)
        ≡ spent b (if t then After (l - a) else Dropped)
    both true e = rw (fits e) (ap (λ k. if nat_le b (l - a) then After k else Dropped) (omega arith))
    both false e = let h : l < a = leb-false a l e in let past : nat_le (a + b) l ≡ false =
        lt-leb (a + b) l (omega arith) in rw past refl
spent-more Dropped a b = refl

pub through-within : (c : BlkCut) (n : ℕ) → through c n ≤ n
through-within Uncut n = omega arith
through-within (After l) n = omega arith
through-within Dropped n = omega arith

-- what reaches the store of some writes, and of others behind them
pub all-or-none : (c : BlkCut) (a b : ℕ) → (through c a ≡ a) ⊎ (through (spent a c) b ≡ 0)
all-or-none Uncut a b = inl refl
all-or-none (After l) a b = both (nat_le a l) refl
  where
    both : (t : Bool) → nat_le a l ≡ t → (min l a ≡ a) ⊎ (through (if t then After (l - a) else Dropped) b ≡ 0)
    both true e = let h : a ≤ l = leb-true a l e in inl (omega arith)
    both false e = inr refl
all-or-none Dropped a b = inr refl

-- ---- how often the store is asked

pub spent-none : (c : BlkCut) → spent 0 c ≡ c
spent-none Uncut = refl
spent-none (After l) = rw (leb-zero l) (ap After (omega arith))
spent-none Dropped = refl

pub asks-append : (c : BlkCut) (vs ws : List Write)
    → asks_of c (vs ++ ws) ≡ asks_of c vs + asks_of (spent (bytes_in vs) c) ws
unfolding asks_of bytes_in
asks-append c [] ws = ap (λ d. asks_of d ws) (sym (spent-none c)) ∙ omega arith
asks-append c (v ∷ vs) ws =
    let one : ℕ = if through c (length v.bytes) == 0 then 0 else 1 in
    ap (λ n. one + n) (asks-append (spent (length v.bytes) c) vs ws)
    ∙ ap (λ d. one + (asks_of (spent (length v.bytes) c) vs + asks_of d ws))
    (sym (spent-more c (length v.bytes) (bytes_in vs))) ∙ omega arith

further-some : (n count : ℕ) → 0 < n → further n count ≡ min (count + n) (2 ^ 64 - 1)
further-some n count h = by-test (n == 0) refl
  where
    by-test : (b : Bool) → (n == 0) ≡ b
        → (if b then count else min (count + n) (2 ^ 64 - 1)) ≡ min (count + n) (2 ^ 64 - 1)
    by-test true e = let none : n ≡ 0 = eqb-true n 0 e in omega (arith, none, h)
    by-test false e = refl

pub further-more : (a b count : ℕ) → further b (further a count) ≡ further (a + b) count
further-more zero b count = ap (λ n. further n count) (omega arith)
further-more (suc a) zero count = ap (λ n. further n count) (omega arith)
further-more (suc a) (suc b) count =
    further-some (suc b) (further (suc a) count) (omega arith)
    ∙ ap (λ n. min (n + suc b) (2 ^ 64 - 1)) (further-some (suc a) count (omega arith))
    ∙ omega arith
    ∙ sym (further-some (suc a + suc b) count (omega arith))
