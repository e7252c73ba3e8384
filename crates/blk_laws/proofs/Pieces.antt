-- Bytes written in pieces, and at once
use Rattle.std.proofs.Common.{◌≡◌, ℕ, zero, suc, ◌+◌, ◌-◌, ◌*◌, ◌/◌, ◌%◌, ◌<◌, ◌≤◌, ◌==◌, min, Bool, true, false}
use Rattle.std.proofs.Common.{if◌then◌else◌, List, [], ◌∷◌, ◌++◌, length, take, drop, replicate, refl, sym, ap, ◌∙◌}
use Rattle.std.proofs.Common.{arith, ◌⊎◌, inl, inr, append_assoc, length-append, length-take}
use Rattle.std.proofs.Math.Nat.{div-eq-sub-div, div-eq_of_lt, mod-eq_of_lt, add-mod_left}
use Rattle.std.proofs.lemmas.Nat.{div-add-mod'}
use Rattle.std.proofs.lemmas.Bool.{cases_lt, eqb-true}
use Rattle.std.proofs.lemmas.List.{take_all, take-append-le, append-nil, drop-drop, take_at, drop_at}
use Rattle.std.proofs.lemmas.List.{replicate-append-replicate}
use Rattle.list_laws.proofs.Elements.{take-append_past}
use Rattle.kmsg_spec.specs.Reasons.{reason_number}
use Rattle.blk_spec.specs.Writes.{Write, after_write, after_writes, first_bytes, bytes_in, in_pieces}
use Rattle.blk_spec.specs.Rings.{header_bytes}
use Rattle.blk_spec.specs.Dumps.{dump_header, body_kept, dump_writes, zeros_by, dump_pieces}
use Rattle.blk_laws.specs.Laws.{DumpPiecesAreOneWrite}
use Rattle.blk_laws.proofs.Zones.{none-written, after-none}

abbrev once : ℕ → List ℕ → List Write
once at bytes = record { at = at; bytes = bytes } ∷ []

-- bytes and the bytes right behind them, written one behind the other and at once
joined : (k at : ℕ) (a b : List ℕ) (store : List ℕ) → at ≤ length store
    → after_writes (first_bytes k (once at a ++ once (at + length a) b)) store
    ≡ after_writes (first_bytes k (once at (a ++ b))) store
unfolding after_writes first_bytes
joined k at a b store h = elim (cases_lt k (length a)) [
  | inl less ↦ let none-left : k - length a ≡ 0 = omega arith in
      ap (λ (bs : List ℕ). after_write (after_write store (record { at = at; bytes = take k a }))
      (record { at = at + length a; bytes = bs })) (ap (λ n. take n b) none-left)
      ∙ none-written (after_write store (record { at = at; bytes = take k a })) (at + length a)
      ∙ ap (λ (bs : List ℕ). after_write store (record { at = at; bytes = bs }))
      (sym (take-append-le k a b (omega arith)))
  | inr more ↦
      ap (λ (bs : List ℕ). after_write (after_write store (record { at = at; bytes = bs }))
      (record { at = at + length a; bytes = take (k - length a) b })) (take_all k a more)
      ∙ two (take (k - length a) b)
      ∙ ap (λ (bs : List ℕ). after_write store (record { at = at; bytes = bs })) (sym (take-append_past k a b more))
]
  where
    two : (c : List ℕ) → after_write (after_write store (record { at = at; bytes = a }))
        (record { at = at + length a; bytes = c }) ≡ after_write store (record { at = at; bytes = a ++ c })
    two c =
        let long : length (take at store ++ a) ≡ at + length a =
        omega (arith, length-append (take at store) a, length-take at store) in
        ap (λ (bs : List ℕ). bs ++ c ++ drop (at + length a + length c)
        (take at store ++ a ++ drop (at + length a) store))
        (take_at (take at store ++ a) (drop (at + length a) store) (at + length a) long)
        ∙ ap (λ (bs : List ℕ). take at store ++ a ++ c ++ bs)
        (sym (drop-drop (length c) (at + length a) (take at store ++ a ++ drop (at + length a) store))
        ∙ ap (drop (length c)) (drop_at (take at store ++ a) (drop (at + length a) store) (at + length a) long)
        ∙ drop-drop (length c) (at + length a) store ∙ ap (λ n. drop n store) (omega (arith, length-append a c)))
        ∙ ap (λ (bs : List ℕ). bs ++ drop (at + length (a ++ c)) store) (append_assoc (take at store) a c)

-- the bytes of all pieces
all-of : List (List ℕ) → List ℕ
all-of [] = []
all-of (piece ∷ pieces) = piece ++ all-of pieces

none-once : (k at : ℕ) (store : List ℕ) → after_writes (first_bytes k (once at [])) store ≡ store
unfolding after_writes first_bytes
none-once k at store = ap (λ (bs : List ℕ). after_write store (record { at = at; bytes = bs })) (empty k)
    ∙ none-written store at
  where
    empty : (n : ℕ) → take {A = ℕ} n [] ≡ []
    empty zero = refl
    empty (suc n) = refl

in-once : (pieces : List (List ℕ)) (k at : ℕ) (store : List ℕ) → at ≤ length store
    → after_writes (first_bytes k (in_pieces at pieces)) store
    ≡ after_writes (first_bytes k (once at (all-of pieces))) store
unfolding after_writes first_bytes in_pieces all-of
in-once [] k at store h = sym (none-once k at store)
in-once (piece ∷ pieces) k at store h =
    rest (in-once pieces (k - length piece) (at + length piece) begun) (cases_lt k (length piece))
    ∙ joined k at piece (all-of pieces) store h
  where
    begun : List ℕ
    begun = after_write store (record { at = at; bytes = take k piece })

    rest : (at + length piece ≤ length begun
        → after_writes (first_bytes (k - length piece) (in_pieces (at + length piece) pieces)) begun
        ≡ after_writes (first_bytes (k - length piece) (once (at + length piece) (all-of pieces))) begun)
        → (k < length piece) ⊎ (length piece ≤ k)
        → after_writes (first_bytes (k - length piece) (in_pieces (at + length piece) pieces)) begun
        ≡ after_writes (first_bytes (k - length piece) (once (at + length piece) (all-of pieces))) begun
    rest more-pieces (inl less) =
        let none : k - length piece ≡ 0 = omega arith in
        ap (λ n. after_writes (first_bytes n (in_pieces (at + length piece) pieces)) begun) none
        ∙ after-none (in_pieces (at + length piece) pieces) begun
        ∙ sym (after-none (once (at + length piece) (all-of pieces)) begun)
        ∙ ap (λ n. after_writes (first_bytes n (once (at + length piece) (all-of pieces))) begun) (sym none)
    rest more-pieces (inr more) = more-pieces (omega (
      arith,
      length-append (take at store ++ take k piece) (drop (at + length (take k piece)) store),
      length-append (take at store) (take k piece),
      length-take at store,
      length-take k piece,
    ))

bytes-once : (pieces : List (List ℕ)) (at : ℕ) → bytes_in (in_pieces at pieces) ≡ length (all-of pieces)
unfolding bytes_in in_pieces all-of
bytes-once [] at = refl
bytes-once (piece ∷ pieces) at = omega (
  arith,
  bytes-once pieces (at + length piece),
  length-append piece (all-of pieces),
)

-- ---- zeros

all-equal : (k count : ℕ) (more : List (List ℕ))
    → all-of (replicate k (replicate count 0) ++ more) ≡ replicate (k * count) 0 ++ all-of more
unfolding all-of
all-equal zero count more = ap (λ n. replicate {A = ℕ} n 0 ++ all-of more) (none count)
  where
    none : (count : ℕ) → 0 ≡ 0 * count
    none count = omega arith
all-equal (suc k) count more =
    ap (λ (bs : List ℕ). replicate count 0 ++ bs) (all-equal k count more)
    ∙ sym (append_assoc (replicate {A = ℕ} count 0) (replicate (k * count) 0) (all-of more))
    ∙ ap (λ (bs : List ℕ). bs ++ all-of more) (replicate-append-replicate count (k * count) 0
    ∙ ap (λ n. replicate {A = ℕ} n 0) (more-of k count))
  where
    more-of : (k count : ℕ) → count + k * count ≡ suc k * count
    more-of k count = grind arith

all-zeros : (count n : ℕ) → all-of (zeros_by count n) ≡ replicate n 0
unfolding zeros_by all-of
all-zeros count n =
    all-equal (n / count) count (if n % count == 0 then [] else replicate (n % count) 0 ∷ [])
    ∙ ap (λ (bs : List ℕ). replicate (n / count * count) 0 ++ bs) (rest (n % count == 0) refl)
    ∙ replicate-append-replicate (n / count * count) (n % count) 0
    ∙ ap (λ k. replicate {A = ℕ} k 0) (div-add-mod' n count)
  where
    rest : (b : Bool) → (n % count == 0) ≡ b
        → all-of (if b then [] else replicate (n % count) 0 ∷ []) ≡ replicate (n % count) 0
    rest true e = ap (λ k. replicate {A = ℕ} k 0) (sym (eqb-true (n % count) 0 e))
    rest false e = append-nil (replicate {A = ℕ} (n % count) 0)

-- no zeros have no piece, and some begin with a piece of as many as there are, at most so many
pub no-zeros : (count : ℕ) → 0 < count → zeros_by count 0 ≡ []
unfolding zeros_by
no-zeros count h =
    ap (λ k. replicate {A = List ℕ} k (replicate count 0) ++ (if 0 % count == 0 then [] else replicate (0 % count) 0
    ∷ [])) (div-eq_of_lt h)
    ∙ ap (λ k. (if k == 0 then [] else replicate {A = ℕ} k 0 ∷ [])) (mod-eq_of_lt h)

pub next-zeros : (count n : ℕ) → 0 < count → 0 < n
    → zeros_by count n ≡ replicate (min count n) 0 ∷ zeros_by count (n - min count n)
unfolding zeros_by
next-zeros count n h some = elim (cases_lt n count) [
  | inl less ↦ few less
  | inr more ↦ many more
]
  where
    few : n < count → zeros_by count n ≡ replicate (min count n) 0 ∷ zeros_by count (n - min count n)
    few less =
        let all : min count n ≡ n = omega arith in
        let none : n - min count n ≡ 0 = omega arith in
        ap (λ k. replicate {A = List ℕ} k (replicate count 0)
        ++ (if n % count == 0 then [] else replicate (n % count) 0 ∷ [])) (div-eq_of_lt less)
        ∙ ap (λ k. (if k == 0 then [] else replicate {A = ℕ} k 0 ∷ [])) (mod-eq_of_lt less)
        ∙ one (n == 0) refl
        ∙ ap (λ k. replicate {A = ℕ} k 0 ∷ []) (sym all)
        ∙ ap (λ (ps : List (List ℕ)). replicate (min count n) 0 ∷ ps)
        (sym (ap (zeros_by count) none ∙ no-zeros count h))
      where
        one : (b : Bool) → (n == 0) ≡ b → (if b then [] else replicate {A = ℕ} n 0 ∷ []) ≡ replicate n 0 ∷ []
        one true e = absurd (not_zero (eqb-true n 0 e))
          where
            not_zero : n ≡ 0 → ⊥
            not_zero e = omega (arith, e, some)
        one false e = refl

    many : count ≤ n → zeros_by count n ≡ replicate (min count n) 0 ∷ zeros_by count (n - min count n)
    many more =
        let all : min count n ≡ count = omega arith in
        let whole : count + (n - count) ≡ n = omega arith in
        let rest : n % count ≡ (n - count) % count =
        ap (λ k. k % count) (sym whole) ∙ add-mod_left count (n - count) in
        let pieces : n / count ≡ suc ((n - count) / count) = div-eq-sub-div h more ∙ omega arith in
        ap (λ k. replicate {A = List ℕ} k (replicate count 0)
        ++ (if n % count == 0 then [] else replicate (n % count) 0 ∷ [])) pieces
        ∙ ap (λ k. replicate {A = ℕ} count 0 ∷ replicate ((n - count) / count) (replicate count 0)
        ++ (if k == 0 then [] else replicate k 0 ∷ [])) rest
        ∙ ap (λ k. replicate {A = ℕ} k 0 ∷ zeros_by count (n - k)) (sym all)

-- ---- a dump

pub dump-pieces : DumpPiecesAreOneWrite
unfolding dump_writes dump_pieces all-of bytes_in
dump-pieces z time packed counter reason body =
    let kept = body_kept z body in
    let header = header_bytes z.sig (record { size = 40 + length kept; start = 0 }) in
    let front = dump_header time packed counter (reason_number reason) in
    let pieces : List (List ℕ) = header ∷ front ∷ kept ∷ zeros_by 65536 (z.size - (52 + length kept)) in
    let bytes : List ℕ = header ++ front ++ kept ++ replicate (z.size - (52 + length kept)) 0 in
    let same : all-of pieces ≡ bytes =
    ap (λ (bs : List ℕ). header ++ (front ++ (kept ++ bs))) (all-zeros 65536 (z.size - (52 + length kept)))
    ∙ ap (λ (bs : List ℕ). header ++ bs) (sym (append_assoc front kept (replicate (z.size - (52 + length kept)) 0)))
    ∙ sym (append_assoc header (front ++ kept) (replicate (z.size - (52 + length kept)) 0))
    ∙ ap (λ (bs : List ℕ). bs ++ replicate (z.size - (52 + length kept)) 0) (sym (append_assoc header front kept)) in (
      bytes-once pieces z.at ∙ ap length same ∙ one z.at bytes,
      λ k store room. in-once pieces k z.at store room
          ∙ ap (λ (bs : List ℕ). after_writes (first_bytes k (once z.at bs)) store) same,
    )
  where
    one : (at : ℕ) (bytes : List ℕ) → length bytes ≡ bytes_in (once at bytes)
    one at bytes = omega arith
