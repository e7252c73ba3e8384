-- An image that is read and written in pieces.
use Rattle.std.proofs.Common.{◌≡◌, ◌⊎◌, inl, inr, replicate, ℕ, suc, ◌+◌, ◌-◌, min, ◌<◌, ◌≤◌, List, [], ◌++◌, length}
use Rattle.std.proofs.Common.{take, drop, arith, Option, Some, None, IfSome, Result, Ok, Err, OnOk, length-append}
use Rattle.std.proofs.Common.{zero-add, sym, ap, ◌∙◌, refl}
use borrow.Rule.Slice.PartMut.{put_mid}
use Rattle.std.proofs.lemmas.Slice.{take-put_mid}
use Rattle.std.proofs.lemmas.List.{take-replicate, replicate-append-replicate, length-replicate}
use Rattle.std.proofs.lemmas.Grind.{common_steps}
use Rattle.std.proofs.lemmas.List.{drop-drop}
use Rattle.std.proofs.Math.Seq.{take-add, take-append_seam, drop-append-add}
use Rattle.outside.specs.declared.outside.Failed.{Failed}
use Rattle.outside.specs.Outside.{next_count, Rose, Writes, WritesFront, written}
use Rattle.image_file.specs.Saving.{piece_count, count_after}

-- bytes that were read up to a place, and a piece that was read into the places behind it
pub read_into : (r : Result (Unit {0}) Failed) (holds : Option (List ℕ)) (at k n m : ℕ) (bytes into : List ℕ)
    → m ≡ at + k → m ≤ length bytes → length into ≡ k → n ≡ k
    → OnOk r (IfSome holds (λ bs. into ≡ take n (drop at bs)))
    → OnOk r (IfSome holds (λ bs. take at bytes ≡ take at bs → take m (put_mid at k bytes into) ≡ take m bs))
read_into (Err e) holds at k n m bytes into sum fits long same h = tt
read_into (Ok u) None at k n m bytes into sum fits long same h = tt
read_into (Ok u) (Some bs) at k n m bytes into sum fits long same h = λ front.
    take-put_mid at k bytes into m (omega (arith, sum, long)) (omega (arith, sum, fits))
    ∙ rw (front, h, same, sum) (sym (take-add at k bs))

-- two writes in a row, from the front on
pub written_twice : (xs p q : List ℕ) → written (written xs 0 p) (length p) q ≡ written xs 0 (p ++ q)
written_twice xs p q = simp (take-append_seam, drop-append-add, drop-drop, length-append, zero-add)

pub written_on : (a b c : Option (List ℕ)) (at : ℕ) (p q : List ℕ) → length p ≡ at → Writes a b 0 p → Writes b c at q
    → Writes a c 0 (p ++ q)
written_on None None None at p q l h k = tt
written_on None None (Some z) at p q l h k = absurd k
written_on None (Some y) c at p q l h k = absurd h
written_on (Some x) None c at p q l h k = absurd h
written_on (Some x) (Some y) None at p q l h k = absurd k
written_on (Some x) (Some y) (Some z) at p q l h k = rw (k, h, ← l) (written_twice x p q)

pub written_reach : (a b : Option (List ℕ)) (at : ℕ) (p : List ℕ) → at ≤ length p → Writes a b 0 p
    → IfSome b (λ bs. at ≤ length bs)
written_reach a None at p l h = tt
written_reach None (Some y) at p l h = absurd h
written_reach (Some x) (Some y) at p l h = rw h (omega (arith, length-append p (drop (0 + length p) x)))

pub written_none : (a : Option (List ℕ)) (p : List ℕ) → p ≡ [] → Writes a a 0 p
written_none None p e = tt
written_none (Some x) p e = rw e refl

-- a write of the next piece
pub written_next : (a b c : Option (List ℕ)) (at n : ℕ) (bytes piece : List ℕ) → at + n ≤ length bytes
    → piece ≡ take n (drop at bytes) → Writes a b 0 (take at bytes) → Writes b c at piece
    → Writes a c 0 (take (at + n) bytes)
written_next a b c at n bytes piece fits e h k =
    let front : length (take at bytes) ≡ at = grind (arith, common_steps) in
    rw (take-add at n bytes, ← e) (written_on a b c at _ _ front h k)

-- a write of the next piece that was cut short
pub written_short : (a b c : Option (List ℕ)) (at n : ℕ) (bytes piece : List ℕ) → at + n ≤ length bytes
    → piece ≡ take n (drop at bytes) → Writes a b 0 (take at bytes) → WritesFront b c at piece → WritesFront a c 0 bytes
written_short a b c at n bytes piece fits e h front =
    let m = front.count in
    let le = front.within in
    let len : length piece ≡ n = rw e (grind (arith, common_steps)) in
    let short : m ≤ n = omega arith in
    let cut : take m piece ≡ take m (drop at bytes) = rw e (grind (arith, common_steps)) in
    let fits' : at + m ≤ length bytes = omega arith in
    record {
      count = at + m;
      within = fits';
      bytes = written_next a b c at m bytes (take m piece)
          fits' cut h front.bytes;
    }

-- zeros, and more of them
pub zeros_next : (a b c : Option (List ℕ)) (at n : ℕ) (piece : List ℕ) → n ≤ 65536
    → piece ≡ take n (replicate 65536 0) → Writes a b 0 (replicate at 0) → Writes b c at piece
    → Writes a c 0 (replicate (at + n) 0)
zeros_next a b c at n piece small e h k =
    let zeros : piece ≡ replicate n 0 = e ∙ take-replicate {X = ℕ} n 65536 0 small in
    rw (← replicate-append-replicate {A = ℕ} at n 0) (written_on a b c at (replicate at 0) (replicate n 0)
    (length-replicate {A = ℕ} at 0) h (rw zeros at k))

pub zeros_short : (a b c : Option (List ℕ)) (at n size : ℕ) (piece : List ℕ) → n ≤ 65536 → at + n ≤ size
    → piece ≡ take n (replicate 65536 0) → Writes a b 0 (replicate at 0) → WritesFront b c at piece
    → WritesFront a c 0 (replicate size 0)
zeros_short a b c at n size piece small fits e h front =
    let zeros : piece ≡ replicate n 0 = e ∙ take-replicate {X = ℕ} n 65536 0 small in
    let len : length piece ≡ n = rw zeros (length-replicate {A = ℕ} n 0) in
    let m = front.count in
    let short : m ≤ n = omega (arith, len, front.within) in
    let least : m ≤ 65536 = omega (arith, short, small) in
    let some : take m piece ≡ take m (replicate 65536 0) =
    rw zeros (take-replicate {X = ℕ} m n 0 short ∙ sym (take-replicate {X = ℕ} m 65536 0 least)) in
    let within : at + m ≤ size = omega (arith, short, fits) in
    record {
      count = at + m;
      within = rw (length-replicate {A = ℕ} size 0) within;
      bytes = rw (take-replicate {X = ℕ} (at + m) size 0 within)
          (zeros_next a b c at m (take m piece) least some h front.bytes);
    }

-- how often a store was asked to write, after one more time: a count of 64 bits may stand at its last value
pub asked_on : (a m b : ℕ) → (m ≡ a) ⊎ Rose a m → b ≡ next_count m → Rose a b
asked_on a m b (inl same) h = omega (arith, same, h)
asked_on a m b (inr rose) h = omega (arith, rose, h)

-- the count of writes where none was made yet, after one more piece, and where none is left
pub counted_first : (size count : ℕ) → count_after (piece_count (size - 0)) count ≡ count_after (piece_count size) count
counted_first size count =
    let same : size - 0 ≡ size = omega arith in ap (λ n. count_after (piece_count n) count) same

pub counted_next : (size at next n before now all : ℕ) → at < size → n ≡ min 65536 (size - at) → next ≡ at + n
    → now ≡ next_count before → count_after (piece_count (size - at)) before ≡ all
    → count_after (piece_count (size - next)) now ≡ all
unfolding count_after
counted_next size at next n before now all more e step once h =
    let one : piece_count (size - at) ≡ suc (piece_count (size - next)) = omega arith in
    ap (count_after (piece_count (size - next))) once ∙ sym (ap (λ k. count_after k before) one) ∙ h

pub counted_all : (size at now all : ℕ) → size ≤ at → count_after (piece_count (size - at)) now ≡ all → now ≡ all
unfolding count_after
counted_all size at now all done h =
    let none : piece_count (size - at) ≡ 0 = omega arith in
    sym (ap (λ k. count_after k now) none) ∙ h
