-- The bytes from the first start of a line on are those of the last lines that fit
use Rattle.std.proofs.Common.{◌≡◌, ℕ, zero, suc, ◌+◌, ◌-◌, ◌<◌, ◌≤◌, inl, inr, List, [], ◌∷◌, ◌++◌, length, drop}
use Rattle.std.proofs.Common.{get_or, All, refl, ap, sym, ◌∙◌, arith, append_assoc}
use Rattle.std.proofs.lemmas.List.{length-append, get_or-append-add}
use Rattle.std.proofs.Math.ListN.{get_or-append}
use Rattle.std.proofs.Math.Seq.{get_or-append_seam, drop-append_seam, drop-append-add}
use Rattle.std.proofs.lemmas.List.Elements.{All-head, All-tail}
use Rattle.std.proofs.lemmas.Bool.Decides.{leb_tells}
use Rattle.kmsg_spec.specs.Bodies.{newline, ended, bytes_of, last_lines}
use Rattle.kmsg_dump.specs.Kept.{IsLine}
use Rattle.kmsg_dump.specs.Starts.{IsStart, IsFirstStart}
use Rattle.kmsg_dump.proofs.LastLines.{all_fit, behind_first, none_of_none}

-- from the front on the first start is the front
pub at_front : (bytes : List ℕ) (p : ℕ) → IsFirstStart bytes 0 p → p ≡ 0
at_front bytes zero s = refl
at_front bytes (suc p) s = absurd (s.before 0 (omega arith) (omega arith) (inl refl))

-- from within the first line on it is the line behind it
behind_line : (x rest : List ℕ) (from p : ℕ) → IsLine x → 0 < from → from ≤ length (ended x)
    → IsFirstStart (ended x ++ rest) from p → p ≡ length (ended x)
behind_line x rest from p line some within s =
    let n : length (ended x) ≡ length x + 1 = length-append x (newline ∷ []) in
    let m : length (ended x ++ rest) ≡ length (ended x) + length rest = length-append (ended x) rest in
    let ends : get_or (ended x ++ rest) (length x) 0 ≡ newline =
    ap (λ bytes. get_or bytes (length x) 0) (append_assoc x (newline ∷ []) rest)
    ∙ get_or-append_seam x newline rest 0 in
    let early : p < length (ended x) → p ≡ length (ended x) = λ (lt : p < length (ended x)). absurd (elim s.start [
      | inl e ↦ let low = s.low in absurd (omega (arith, low, e))
      | inr o ↦ elim o [
        | inl q ↦ let k : p - 1 < length x = omega (arith, q.0) in let k' : p - 1 < length (ended x) = omega arith in
            line (p - 1) k (sym (get_or-append (ended x) rest 0 (p - 1) k' ∙ get_or-append x (newline ∷ []) 0 (p - 1) k)
            ∙ q.1)
        | inr e ↦ absurd (omega (arith, e))
      ]
    ]) in
    let late : length (ended x) < p → p ≡ length (ended x) = λ (lt : length (ended x) < p).
    absurd (s.before (length (ended x)) within lt (inr (inl (
      omega (arith, n),
      ap (λ k. get_or (ended x ++ rest) k 0) (let e : length (ended x) - 1 ≡ length x = omega (arith, n) in e) ∙ ends,
    )))) in
    elim (leb_tells p (length (ended x))) [
      | inl f ↦ elim (leb_tells (length (ended x)) p) [ inl g ↦ omega (arith, f.1, g.1) | inr g ↦ early g.1 ]
      | inr f ↦ late f.1
    ]

-- a start behind a front is one of the rest
start_behind : (x rest : List ℕ) (k : ℕ) → length x < k → IsStart (x ++ rest) k → IsStart rest (k - length x)
start_behind x rest k h (inl e) = absurd (omega (arith, e))
start_behind x rest k h (inr (inl q)) = inr (inl (
  omega arith,
  sym (get_or-append-add x rest (k - length x - 1) 0)
      ∙ ap (λ i. get_or (x ++ rest) i 0) (let e : length x + (k - length x - 1) ≡ k - 1 = omega arith in e) ∙ q.1,
))
start_behind x rest k h (inr (inr e)) = inr (inr (let n = length-append x rest in omega (arith, e, n)))

start_before : (x rest : List ℕ) (k : ℕ) → 0 < k → IsStart rest k → IsStart (x ++ rest) (length x + k)
start_before x rest k h (inl e) = absurd (omega (arith, e))
start_before x rest k h (inr (inl q)) = inr (inl (
  omega arith,
  ap (λ i. get_or (x ++ rest) i 0) (let e : length x + k - 1 ≡ length x + (k - 1) = omega arith in e)
      ∙ get_or-append-add x rest (k - 1) 0 ∙ q.1,
))
start_before x rest k h (inr (inr e)) = inr (inr (let n = length-append x rest in omega (arith, e, n)))

in_rest : (x rest : List ℕ) (from p : ℕ) → length x < from → IsFirstStart (x ++ rest) from p
    → IsFirstStart rest (from - length x) (p - length x)
in_rest x rest from p h s =
    let low = s.low in let high = s.high in let n = length-append x rest in record {
      low = omega (arith, low);
      high = omega (arith, high, n);
      start = start_behind x rest p (omega (arith, low)) s.start;
      before = λ k l g is. s.before (length x + k) (omega (arith, l)) (omega (arith, g))
          (start_before x rest k (omega (arith, l)) is);
    }

pub from_start : (lines : List (List ℕ)) → All IsLine lines → (from p : ℕ) → from ≤ length (bytes_of lines)
    → IsFirstStart (bytes_of lines) from p
    → drop p (bytes_of lines) ≡ bytes_of (last_lines (length (bytes_of lines) - from) lines)
from_start [] plain from p h s =
    let high = s.high in let e : p ≡ 0 = omega (arith, high) in
    ap (λ k. drop k []) e ∙ ap bytes_of (sym (none_of_none (0 - from)))
from_start (x ∷ xs) plain zero p h s =
    ap (λ k. drop k (bytes_of (x ∷ xs))) (at_front (bytes_of (x ∷ xs)) p s)
    ∙ ap bytes_of (sym (all_fit (length (bytes_of (x ∷ xs)) - 0) (x ∷ xs) (omega arith)))
from_start (x ∷ xs) plain (suc from) p h s =
    let n : length (bytes_of (x ∷ xs)) ≡ length (ended x) + length (bytes_of xs) =
    length-append (ended x) (bytes_of xs) in
    let room = length (bytes_of (x ∷ xs)) - suc from in
    let gone : last_lines room (x ∷ xs) ≡ last_lines room xs = behind_first room x xs (omega arith) in
    elim (leb_tells (suc from) (length (ended x))) [
      | inl f ↦ ap (λ k. drop k (bytes_of (x ∷ xs)))
          (behind_line x (bytes_of xs) (suc from) p (All-head IsLine x xs plain) (omega arith) f.1 s)
          ∙ drop-append_seam (ended x) (bytes_of xs)
          ∙ ap bytes_of (sym (all_fit room xs (omega (arith, n, f.1))) ∙ sym gone)
      | inr f ↦ let low = s.low in
          let at : p ≡ length (ended x) + (p - length (ended x)) = omega (arith, low, f.1) in
          let same : length (bytes_of xs) - (suc from - length (ended x)) ≡ room = omega (arith, n, f.1) in
          ap (λ k. drop k (bytes_of (x ∷ xs))) at
          ∙ drop-append-add (ended x) (bytes_of xs) (p - length (ended x))
          ∙ from_start xs (All-tail IsLine x xs plain) (suc from - length (ended x)) (p - length (ended x))
          (omega (arith, n, f.1))
          (in_rest (ended x) (bytes_of xs) (suc from) p f.1 s)
          ∙ ap (λ k. bytes_of (last_lines k xs)) same ∙ ap bytes_of (sym gone)
    ]
