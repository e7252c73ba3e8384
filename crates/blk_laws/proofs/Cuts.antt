-- What reaches the store before and behind a cut
use Rattle.std.proofs.Common.{◌≡◌, ℕ, ◌+◌, ◌-◌, ◌≤◌, min, Bool, true, false, if◌then◌else◌, nat_le, List, [], ◌∷◌}
use Rattle.std.proofs.Common.{length, refl, ap, ◌∙◌, arith}
use Rattle.std.proofs.lemmas.List.{take_all}
use Rattle.std.proofs.lemmas.Bool.{leb-true}
use Rattle.blk_spec.specs.declared.BlkZone.{BlkZone}
use Rattle.blk_spec.specs.declared.BlkCut.{BlkCut}
use Rattle.blk_spec.specs.declared.BlkCut.TheVariants.{Uncut, After, Dropped}
use Rattle.blk_spec.specs.Writes.{Write, after_writes, bytes_in, first_bytes, through, reaching, spent, limited}
use Rattle.blk_laws.specs.Apart.{AreWithin}
use Rattle.blk_laws.specs.Sessions.{none_dropped}
use Rattle.blk_laws.proofs.Zones.{after-none}
use Rattle.blk_laws.proofs.OwnZones.{length-after, within-first}

pub first-all : (n : ℕ) (ws : List Write) → bytes_in ws ≤ n → first_bytes n ws ≡ ws
unfolding first_bytes bytes_in
first-all n [] h = refl
first-all n (w ∷ ws) h =
    ap (λ (bs : List ℕ). record { at = w.at; bytes = bs } ∷ first_bytes (n - length w.bytes) ws)
    (take_all n w.bytes (omega arith))
    ∙ ap (λ rest. w ∷ rest) (first-all (n - length w.bytes) ws (omega arith))

-- where no byte was dropped, all reached the store
all-through : (c : BlkCut) (n : ℕ) → none_dropped (spent n c) ≡ true → through c n ≡ n
all-through Uncut n e = refl
all-through (After limit) n e = by-limit (nat_le n limit) refl e
  where
    by-limit : (b : Bool) → nat_le n limit ≡ b → none_dropped (if b then After (limit - n) else Dropped) ≡ true
        → min limit n ≡ n
    by-limit true h e = let k : n ≤ limit = leb-true n limit h in omega arith
    by-limit false h e = cc
all-through Dropped n e = cc

pub whole-before : (c : BlkCut) (n : ℕ) → none_dropped (spent n c) ≡ true → none_dropped c ≡ true
whole-before Uncut n e = refl
whole-before (After limit) n e = refl
whole-before Dropped n e = e

pub whole-limited : (c : BlkCut) (n : ℕ) → none_dropped (limited n c) ≡ true → none_dropped c ≡ true
whole-limited Uncut n e = refl
whole-limited (After limit) n e = refl
whole-limited Dropped n e = e

pub all-reached : (c : BlkCut) (ws : List Write) (store : List ℕ) → none_dropped (spent (bytes_in ws) c) ≡ true
    → after_writes (reaching c ws) store ≡ after_writes ws store
all-reached c ws store e =
    ap (λ n. after_writes (first_bytes n ws) store) (all-through c (bytes_in ws) e)
    ∙ ap (λ (xs : List Write). after_writes xs store) (first-all (bytes_in ws) ws (omega arith))

-- a call within a zone of the store leaves the store as long as it was
pub length-reached : (c : BlkCut) (z : BlkZone) (ws : List Write) (store : List ℕ)
    → (none_dropped c ≡ true → (z.at + z.size ≤ length store) × AreWithin z ws)
    → length (after_writes (reaching c ws) store) ≡ length store
length-reached Uncut z ws store h = let inside = h refl in
    length-after z (first_bytes (bytes_in ws) ws) store (within-first z (bytes_in ws) ws inside.1) inside.0
length-reached (After limit) z ws store h =
    let inside = h refl in length-after z (first_bytes (min limit (bytes_in ws)) ws) store
    (within-first z (min limit (bytes_in ws)) ws inside.1) inside.0
length-reached Dropped z ws store h = ap (length {A = ℕ}) (after-none ws store)
