-- The bytes of a ring by their places, before and behind the runs of an append
use Rattle.std.proofs.Common.{◌≡◌, ℕ, ◌+◌, ◌-◌, ◌<◌, ◌≤◌, min, List, ◌++◌, length, take, drop, get_or, sym, ap, ◌∙◌}
use Rattle.std.proofs.Common.{arith, inl, inr, length-append, length-take, length-drop, get_or-drop, get_or-take}
use Rattle.std.proofs.lemmas.List.{get_or_append_left, get_or-append_right}
use Rattle.std.proofs.lemmas.Grind.{same_number_lists}
use Rattle.std.proofs.lemmas.Bool.{cases_lt}
use Rattle.ring_laws.proofs.RingBytes.{RingBytes, AppendedBytes}
use Rattle.blk_spec.specs.Writes.{after_write}

same-at : (xs : List ℕ) (a b : ℕ) → a ≡ b → get_or xs a 0 ≡ get_or xs b 0
same-at xs a b e = ap (λ i. get_or xs i 0) e

-- a write changes its own places alone
module _ (xs bytes : List ℕ) (at : ℕ) (h : at + length bytes ≤ length xs) where
  front : length (take at xs) ≡ at
  front = omega (arith, length-take at xs)

  both : length (take at xs ++ bytes) ≡ at + length bytes
  both = omega (arith, front, length-append (take at xs) bytes)

  pub below-write : (i : ℕ) → i < at → get_or (after_write xs (record { at = at; bytes = bytes })) i 0 ≡ get_or xs i 0
  below-write i k =
      get_or_append_left (take at xs ++ bytes) (drop (at + length bytes) xs) 0 i (omega (arith, both))
      ∙ get_or_append_left (take at xs) bytes 0 i (omega (arith, front)) ∙ get_or-take at xs i 0 k

  pub inside-write : (i : ℕ) → at ≤ i → i < at + length bytes
      → get_or (after_write xs (record { at = at; bytes = bytes })) i 0 ≡ get_or bytes (i - at) 0
  inside-write i k l =
      get_or_append_left (take at xs ++ bytes) (drop (at + length bytes) xs) 0 i (omega (arith, both))
      ∙ get_or-append_right (take at xs) bytes at i 0 front k

  pub behind-write : (i : ℕ) → at + length bytes ≤ i → get_or (after_write xs (record { at = at; bytes = bytes })) i 0
      ≡ get_or xs i 0
  behind-write i k =
      get_or-append_right (take at xs ++ bytes) (drop (at + length bytes) xs) (at + length bytes) i 0 both k
      ∙ get_or-drop (at + length bytes) xs (i - (at + length bytes)) 0 ∙ same-at xs _ i (omega arith)

  pub length-written : length (after_write xs (record { at = at; bytes = bytes })) ≡ length xs
  length-written = omega (
    arith,
    both,
    length-append (take at xs ++ bytes) (drop (at + length bytes) xs),
    length-drop (at + length bytes) xs,
  )

-- a ring's data behind the first run, and behind both
abbrev pub once : List ℕ → ℕ → ℕ → List ℕ → List ℕ
once old start m q = after_write old (record { at = start; bytes = take m q })

abbrev pub twice : List ℕ → ℕ → ℕ → List ℕ → List ℕ
twice old start m q = after_write (once old start m q) (record { at = 0; bytes = drop m q })

pub runs-AppendedBytes : (old q : List ℕ) (start cap m : ℕ) → length old ≡ cap → start < cap → length q ≤ cap
    → m ≡ min (length q) (cap - start)
    → AppendedBytes (λ p. get_or old p 0) (λ p. get_or (twice old start m q) p 0) start cap q
runs-AppendedBytes old q start cap m total below short e =
    let first-long : length (take m q) ≡ m = omega (arith, length-take m q) in
    let rest-long : length (drop m q) ≡ length q - m = length-drop m q in
    let fits : start + length (take m q) ≤ length old = omega arith in
    let whole : length (once old start m q) ≡ length old = length-written old (take m q) start fits in
    let rest-fits : 0 + length (drop m q) ≤ length (once old start m q) = omega arith in
    record {
      first = λ p h k l.
          behind-write (once old start m q) (drop m q) 0 rest-fits p (omega arith)
          ∙ inside-write old (take m q) start fits p h (omega arith) ∙ get_or-take m q (p - start) 0 (omega arith);
      second = λ p h.
          inside-write (once old start m q) (drop m q) 0 rest-fits p (omega arith) (omega arith)
          ∙ get_or-drop m q (p - 0) 0 ∙ same-at q _ ((cap - start) + p) (omega arith);
      others = λ p h k side.
          behind-write (once old start m q) (drop m q) 0 rest-fits p (omega arith)
          ∙ (elim side [
            | inl a ↦ below-write old (take m q) start fits p a
            | inr b ↦ behind-write old (take m q) start fits p (omega arith)
          ]);
    }

-- a ring's bytes in turn are the list, and stand by its places
abbrev pub in-turn : List ℕ → ℕ → ℕ → List ℕ
in-turn bytes start size = drop start (take size bytes) ++ take start bytes

length-back : (bytes : List ℕ) (start size : ℕ) → size ≤ length bytes
    → length (drop start (take size bytes)) ≡ size - start
length-back bytes start size h = omega (arith, length-drop start (take size bytes), length-take size bytes)

length-in-turn : (bytes : List ℕ) (start size : ℕ) → start ≤ size → size ≤ length bytes
    → length (in-turn bytes start size) ≡ size
length-in-turn bytes start size h k =
    omega (
      arith,
      length-append (drop start (take size bytes)) (take start bytes),
      length-back bytes start size k,
      length-take start bytes,
    )

pub turn-RingBytes : (bytes told : List ℕ) (start size : ℕ) → start ≤ size → size ≤ length bytes
    → in-turn bytes start size ≡ told → RingBytes (λ p. get_or bytes p 0) start size told
turn-RingBytes bytes told start size h k e = record {
  total = ap (length {A = ℕ}) (sym e) ∙ length-in-turn bytes start size h k;
  before = λ p l. sym (
      ap (λ (xs : List ℕ). get_or xs ((size - start) + p) 0) (sym e)
      ∙ get_or-append_right (drop start (take size bytes)) (take start bytes) (size - start) ((size - start) + p) 0
      (length-back bytes start size k) (omega arith)
      ∙ same-at (take start bytes) _ p (omega arith) ∙ get_or-take start bytes p 0 l);
  behind = λ p l m. sym (
      ap (λ (xs : List ℕ). get_or xs (p - start) 0) (sym e)
      ∙ get_or_append_left (drop start (take size bytes)) (take start bytes) 0 (p - start)
      (omega (arith, length-back bytes start size k))
      ∙ get_or-drop start (take size bytes) (p - start) 0 ∙ same-at (take size bytes) _ p (omega arith)
      ∙ get_or-take size bytes p 0 m);
}

pub RingBytes-turn : (bytes told : List ℕ) (start size : ℕ) → start ≤ size → size ≤ length bytes
    → RingBytes (λ p. get_or bytes p 0) start size told → in-turn bytes start size ≡ told
RingBytes-turn bytes told start size h k ring =
    same_number_lists (in-turn bytes start size) told (length-in-turn bytes start size h k ∙ sym ring.total)
    (λ i l. elim (cases_lt i (size - start)) [
      | inl a ↦
          get_or_append_left (drop start (take size bytes)) (take start bytes) 0 i
          (omega (arith, length-back bytes start size k))
          ∙ get_or-drop start (take size bytes) i 0 ∙ get_or-take size bytes (start + i) 0 (omega arith)
          ∙ ring.behind (start + i) (omega arith) (omega arith) ∙ same-at told _ i (omega arith)
      | inr b ↦
          get_or-append_right (drop start (take size bytes)) (take start bytes) (size - start) i 0
          (length-back bytes start size k) b
          ∙ get_or-take start bytes (i - (size - start)) 0 (omega (arith, length-in-turn bytes start size h k))
          ∙ ring.before (i - (size - start)) (omega (arith, length-in-turn bytes start size h k))
          ∙ same-at told _ i (omega arith)
    ])
