-- A newline found in a piece of bytes is found in the bytes, and a line starts behind it
use Rattle.std.proofs.Common.{◌≡◌, ℕ, true, ◌+◌, ◌-◌, ◌<◌, ◌≤◌, inl, inr, List, ◌++◌, Some, None, length, drop, get_or}
use Rattle.std.proofs.Common.{refl, ap, sym, ◌∙◌, arith, subst, eqb-true, eq-eqb}
use Rattle.std.proofs.lemmas.List.{length-append, length-drop, get_or-drop, get_or-append-add}
use Rattle.std.proofs.Math.ListN.{get_or-append}
use Rattle.std.proofs.lemmas.Bool.Decides.{leb_tells}
use Rattle.memchr.specs.Find.{IsFirst, Passes, is_byte, Nowhere}
use Rattle.kmsg_spec.specs.Bodies.{newline}
use Rattle.kmsg_dump.specs.Starts.{IsStart, IsFirstStart}

abbrev pub IsNewline : List ℕ → ℕ → Type 0
IsNewline bytes k = Passes (is_byte newline) bytes k

-- from a place on the bytes are the piece
pub record Lies (bytes piece : List ℕ) (at : ℕ) : Type 0 where
  pub within : at + length piece ≤ length bytes
  pub reads : (k : ℕ) → k < length piece → get_or bytes (at + k) 0 ≡ get_or piece k 0

pub front_lies : (front back : List ℕ) (at : ℕ) → at ≤ length front → Lies (front ++ back) (drop at front) at
front_lies front back at h = let n = length-append front back in let m = length-drop at front in record {
  within = omega (arith, n, m);
  reads = λ k l. get_or-append front back 0 (at + k) (omega (arith, m, l)) ∙ sym (get_or-drop at front k 0);
}

pub back_lies : (front back : List ℕ) (at : ℕ) → length front ≤ at → at ≤ length front + length back
    → Lies (front ++ back) (drop (at - length front) back) at
back_lies front back at h g =
    let n = length-append front back in let m = length-drop (at - length front) back in record {
      within = omega (arith, n, m);
      reads = λ k l. ap (λ i. get_or (front ++ back) i 0)
          (let e : at + k ≡ length front + (at - length front + k) = omega arith in e)
          ∙ get_or-append-add front back (at - length front + k) 0
          ∙ sym (get_or-drop (at - length front) back k 0);
    }

pub whole_back_lies : (front back : List ℕ) → Lies (front ++ back) back (length front)
whole_back_lies front back = let n = length-append front back in record {
  within = omega (arith, n);
  reads = λ k l. get_or-append-add front back k 0;
}

into_piece : (bytes piece : List ℕ) (at k : ℕ) → Lies bytes piece at → k < length piece → IsNewline bytes (at + k)
    → IsNewline piece k
into_piece bytes piece at k l h p = subst (λ (x : ℕ). is_byte newline x ≡ true) (l.reads k h) p

out_of_piece : (bytes piece : List ℕ) (at k : ℕ) → Lies bytes piece at → k < length piece → IsNewline piece k
    → IsNewline bytes (at + k)
out_of_piece bytes piece at k l h p = subst (λ (x : ℕ). is_byte newline x ≡ true) (sym (l.reads k h)) p

nowhere_in : (bytes piece : List ℕ) (at n k : ℕ) → Lies bytes piece at → n ≤ length piece
    → Nowhere (IsNewline piece) 0 n → at ≤ k → k < at + n → IsNewline bytes k → ⊥
nowhere_in bytes piece at n k l fits none low high p =
    let e : k ≡ at + (k - at) = omega arith in
    none (k - at) (omega arith) (omega arith)
    (into_piece bytes piece at (k - at) l (omega arith) (subst (IsNewline bytes) e p))

pub found : (bytes piece : List ℕ) (at i : ℕ) → Lies bytes piece at
    → IsFirst (IsNewline piece) 0 (length piece) (Some i) → IsFirst (IsNewline bytes) at (length bytes) (Some (at + i))
found bytes piece at i l f = let high = f.0.high in let within = l.within in (
  record {
    low = omega arith;
    high = omega (arith, high, within);
    before = λ k low below. nowhere_in bytes piece at i k l (omega (arith, high)) f.0.before low below;
  },
  out_of_piece bytes piece at i l high f.1,
)

pub missed : (bytes piece : List ℕ) (at : ℕ) → Lies bytes piece at
    → IsFirst (IsNewline piece) 0 (length piece) None → Nowhere (IsNewline bytes) at (at + length piece)
missed bytes piece at l none k low below = nowhere_in bytes piece at (length piece) k l (omega arith) none low below

-- none in a front, and the first behind it
pub joined : (P : ℕ → Type 0) (a m n i : ℕ) → a ≤ m → Nowhere P a m → IsFirst P m n (Some i) → IsFirst P a n (Some i)
joined P a m n i h none f = let low = f.0.low in (
  record {
    low = omega (arith, low);
    high = f.0.high;
    before = λ k l g p. elim (leb_tells m k) [ inl le ↦ f.0.before k le.1 g p | inr lt ↦ none k l lt.1 p ];
  },
  f.1,
)

pub joined_none : (P : ℕ → Type 0) (a m n : ℕ) → Nowhere P a m → Nowhere P m n → Nowhere P a n
joined_none P a m n none rest k l g p = elim (leb_tells m k) [ inl le ↦ rest k le.1 g p | inr lt ↦ none k l lt.1 p ]

-- a start behind the front stands behind a newline, or at the end
before_start : (bytes : List ℕ) (from k : ℕ) → 0 < from → from ≤ k → k < length bytes
    → (IsNewline bytes (k - 1) → ⊥) → IsStart bytes k → ⊥
before_start bytes from k some low high none (inl e) = absurd (omega (arith, e))
before_start bytes from k some low high none (inr (inl q)) = none (eq-eqb (get_or bytes (k - 1) 0) newline q.1)
before_start bytes from k some low high none (inr (inr e)) = absurd (omega (arith, e))

pub start_found : (bytes : List ℕ) (from i : ℕ) → 0 < from
    → IsFirst (IsNewline bytes) (from - 1) (length bytes) (Some i) → IsFirstStart bytes from (i + 1)
start_found bytes from i some f = let low = f.0.low in let high = f.0.high in record {
  low = omega (arith, low);
  high = omega (arith, high);
  start = inr (inl (
    omega arith,
    ap (λ k. get_or bytes k 0) (let e : i + 1 - 1 ≡ i = omega arith in e)
        ∙ eqb-true (get_or bytes i 0) newline f.1,
  ));
  before = λ k l g. before_start bytes from k some l (omega (arith, high))
      (f.0.before (k - 1) (omega arith) (omega arith));
}

pub start_missed : (bytes : List ℕ) (from : ℕ) → 0 < from → from ≤ length bytes
    → Nowhere (IsNewline bytes) (from - 1) (length bytes) → IsFirstStart bytes from (length bytes)
start_missed bytes from some within none = record {
  low = within;
  high = omega arith;
  start = inr (inr refl);
  before = λ k l g. before_start bytes from k some l g (none (k - 1) (omega arith) (omega arith));
}
