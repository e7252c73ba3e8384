-- What the answer of a decoding tells of the nearest codeword, and how many fixes there are at most.
use Rattle.std.proofs.Common.{◌≡◌, ℕ, zero, suc, ◌/◌, ◌≤◌, Bool, true, false, refl, arith, List, [], ◌∷◌, length}
use Rattle.std.proofs.Common.{Option, Some, None, eqb}
use Rattle.std.proofs.lemmas.Bool.{le-leb}
use Rattle.decoder_laws.proofs.Nearest.{nearest-close}
use Rattle.code_spec.specs.Code.{distance, nearest}
use Rattle.rs_decode.specs.Decoding.{decoded_by, decoded_at, differences, fixes_by}
use Rattle.oopsbox_c.specs.Codes.{is_block, has_answer, decode_end, end_of, near_end}
use Rattle.oopsbox_c.specs.declared.ends.End.TheVariants.{Done}

-- the answer tells whether there is a nearest codeword
pub end_is : (w : List ℕ) (near : Option (List ℕ)) → end_of (decoded_by w near) ≡ near_end near
unfolding decoded_by
end_is w None = refl
end_is w (Some c) = at (distance w c)
  where
    at : (n : ℕ) → end_of (decoded_at n) ≡ Done
    at zero = refl
    at (suc n) = refl

-- a block, with room for the places
pub answered : (m p s : ℕ) (near : Option (List ℕ)) → is_block m p ≡ true → p / 2 ≤ s
    → decode_end m p s near ≡ near_end near
answered m p s near b l = rw (b, le-leb (p / 2) s l) refl

pub has : (m p s : ℕ) → is_block m p ≡ true → p / 2 ≤ s → has_answer m p s ≡ true
has m p s b l = rw (b, le-leb (p / 2) s l) refl

count_is : (i : ℕ) (w c : List ℕ) → length (differences i w c) ≤ distance w c
unfolding distance
count_is i [] c = omega arith
count_is i (a ∷ w) [] = omega arith
count_is i (a ∷ w) (b ∷ c) = by (eqb a b) refl (count_is (suc i) w c)
  where
    by : (t : Bool) → eqb a b ≡ t → length (differences (suc i) w c) ≤ distance w c
        → length (differences i (a ∷ w) (b ∷ c)) ≤ distance (a ∷ w) (b ∷ c)
    by true e more = rw e (omega (arith, more))
    by false e more = rw e (omega (arith, more))

-- as many fixes as half the parity, at most
pub few_fixes : (r : ℕ) (w : List ℕ) → length (fixes_by w (nearest r w)) ≤ r / 2
unfolding fixes_by
few_fixes r w = by (nearest r w) refl
  where
    by : (o : Option (List ℕ)) → nearest r w ≡ o → length (fixes_by w o) ≤ r / 2
    by None e = omega arith
    by (Some c) e = omega (arith, count_is 0 w c, nearest-close r w c e)
