-- A time line is read from a log's first 36 bytes
use Rattle.std.proofs.Common.{◌≡◌, ℕ, zero, suc, ◌+◌, ◌-◌, ◌^◌, ◌≤◌, min, Bool, true, false, cond, ◌&&◌, if◌then◌else◌}
use Rattle.std.proofs.Common.{nat_le, nat_lt, List, [], ◌∷◌, ◌++◌, length, take, drop, codes, Option, Some, None, refl}
use Rattle.std.proofs.Common.{sym, ap, ap₂, ◌∙◌, arith, inl, inr, length-take}
use Rattle.std.specs.Prelude.{bytes_eq, is_some}
use Rattle.std.specs.List.{take_while}
use Rattle.std.proofs.Math.Seq.{take-append_seam}
use Rattle.std.proofs.lemmas.List.{take-take, take_all}
use Rattle.std.proofs.lemmas.List.Sums.{take_while-cons}
use Rattle.std.proofs.lemmas.Bool.{cases_lt}
use Rattle.std.proofs.lemmas.Bool.Decides.{nat_tests}
use Rattle.zone_spec.specs.declared.TimeLine.{TimeLine}
use Rattle.zone_spec.specs.TimeLines.{digits_of, number_of, begins_with, line_ending, line_with, read_line, has_line}

drop-take-any : (k n : ℕ) (xs : List ℕ) → drop k (take n xs) ≡ take (n - k) (drop k xs)
drop-take-any zero n xs = ap (λ (m : ℕ). take m xs) (let e : n ≡ n - 0 = omega arith in e)
drop-take-any (suc k) zero xs = ap (λ (m : ℕ). take m (drop (suc k) xs)) (let e : 0 ≡ 0 - suc k = omega arith in e)
drop-take-any (suc k) (suc n) [] = sym (take_all (suc n - suc k) [] (omega arith))
drop-take-any (suc k) (suc n) (x ∷ xs) =
    drop-take-any k n xs ∙ ap (λ (m : ℕ). take m (drop k xs)) (let e : n - k ≡ suc n - suc k = omega arith in e)

while-take : (p : ℕ → Bool) (n : ℕ) (xs : List ℕ) → take_while p (take n xs) ≡ take n (take_while p xs)
while-take p zero xs = refl
while-take p (suc n) [] = refl
while-take p (suc n) (x ∷ xs) =
    take_while-cons p x (take n xs) ∙ ap (λ (l : List ℕ). cond (p x) (x ∷ l) []) (while-take p n xs)
    ∙ push (p x) (take_while p xs) ∙ sym (ap (take (suc n)) (take_while-cons p x xs))
  where
    push : (b : Bool) (l : List ℕ) → cond b (x ∷ take n l) [] ≡ take (suc n) (cond b (x ∷ l) [])
    push true l = refl
    push false l = refl

digits-take : (n : ℕ) (xs : List ℕ) → digits_of (take n xs) ≡ take n (digits_of xs)
digits-take n xs = while-take (λ c. nat_le 48 c && nat_le c 57) n xs

begins-take : (front : List ℕ) (m k : ℕ) (ys : List ℕ) → length front ≡ k → k ≤ m
    → begins_with front (take m ys) ≡ begins_with front ys
begins-take front m k ys e le = ap (λ (l : List ℕ). bytes_eq l front)
    (take-take (length front) m ys (omega (arith, e, le)))

ending-take : (s u : List ℕ) (m : ℕ) (ys : List ℕ) → 3 ≤ m → line_ending s u (take m ys) ≡ line_ending s u ys
ending-take s u m ys le =
    ap (λ (b : Bool). if b then Some (line_with s u false 1)
    else (if begins_with (codes "-D" ++ 10 ∷ []) (take m ys) then Some (line_with s u false 3)
    else (if begins_with (codes "-C" ++ 10 ∷ []) (take m ys) then Some (line_with s u true 3) else None)))
    (begins-take (10 ∷ []) m 1 ys refl (omega arith))
    ∙ ap₂ (λ (b c : Bool). if begins_with (10 ∷ []) ys then Some (line_with s u false 1)
    else (if b then Some (line_with s u false 3) else (if c then Some (line_with s u true 3) else None)))
    (begins-take (codes "-D" ++ 10 ∷ []) m 3 ys refl le) (begins-take (codes "-C" ++ 10 ∷ []) m 3 ys refl le)

-- a line with these digits, where all tests succeed
abbrev pick : Bool → List ℕ → Bool → List ℕ → Option TimeLine → Option TimeLine
pick b s c u line =
    if b && nat_le 1 (length s) && nat_le (length s) 19 && nat_lt (number_of s) (2 ^ 63)
    && c && nat_le 1 (length u) && nat_le (length u) 9
    then line else None

none-third : (a b c d e f g : Bool) (line : Option TimeLine) → c ≡ false
    → (if a && b && c && d && e && f && g then line else None) ≡ None
none-third a b true d e f g line h = absurd (cc)
none-third true true false d e f g line h = refl
none-third true false false d e f g line h = refl
none-third false true false d e f g line h = refl
none-third false false false d e f g line h = refl

none-last : (a g : Bool) (line : Option TimeLine) → g ≡ false → (if a && g then line else None) ≡ None
none-last a true line h = absurd (cc)
none-last true false line h = refl
none-last false false line h = refl

module _ (b : Bool) (s : List ℕ) (c : Bool) (u : List ℕ) (line : Option TimeLine) where
  long-secs : 20 ≤ length s → pick b s c u line ≡ None
  long-secs h = none-third b (nat_le 1 (length s)) (nat_le (length s) 19) (nat_lt (number_of s) (2 ^ 63)) c
      (nat_le 1 (length u)) (nat_le (length u) 9) line (grind (arith, nat_tests))

  long-micros : 10 ≤ length u → pick b s c u line ≡ None
  long-micros h = none-last (b && nat_le 1 (length s) && nat_le (length s) 19 && nat_lt (number_of s) (2 ^ 63)
      && c && nat_le 1 (length u)) (nat_le (length u) 9) line (grind (arith, nat_tests))

abbrev parse : List ℕ → List ℕ → List ℕ → Option TimeLine
parse log s u = pick (begins_with (codes "====") log) s (begins_with (codes ".") (drop (4 + length s) log)) u
    (line_ending s u (drop (5 + length s + length u) log))

abbrev micros : List ℕ → List ℕ → List ℕ
micros log s = digits_of (drop (5 + length s) log)

parse-is : (log : List ℕ) → read_line log ≡ parse log (digits_of (drop 4 log)) (micros log (digits_of (drop 4 log)))
unfolding read_line
parse-is log = refl

-- with few digits all that is read lies in the first 36 bytes
parse-front : (log s u : List ℕ) → length s ≤ 19 → length u ≤ 9 → parse (take 36 log) s u ≡ parse log s u
parse-front log s u hs hu =
    ap (λ (b : Bool). pick b s (begins_with (codes ".") (drop (4 + length s) (take 36 log))) u
    (line_ending s u (drop (5 + length s + length u) (take 36 log))))
    (begins-take (codes "====") 36 4 log refl (omega arith))
    ∙ ap₂ (λ (c : Bool) (o : Option TimeLine). pick (begins_with (codes "====") log) s c u o)
    (ap (λ (l : List ℕ). begins_with (codes ".") l) (drop-take-any (4 + length s) 36 log)
    ∙ begins-take (codes ".") (36 - (4 + length s)) 1 (drop (4 + length s) log) refl (omega arith))
    (ap (λ (l : List ℕ). line_ending s u l) (drop-take-any (5 + length s + length u) 36 log)
    ∙ ending-take s u (36 - (5 + length s + length u)) (drop (5 + length s + length u) log) (omega arith))

pub line-front : (log : List ℕ) → read_line (take 36 log) ≡ read_line log
line-front log =
    let front : List ℕ = take 36 log in
    let s : List ℕ = digits_of (drop 4 log) in
    let s1 : List ℕ = digits_of (drop 4 front) in
    let u : List ℕ = micros log s in
    let secs : s1 ≡ take 32 s = ap (λ (l : List ℕ). digits_of l) (drop-take-any 4 36 log)
    ∙ digits-take 32 (drop 4 log) in
    parse-is front ∙ elim (cases_lt (length s) 20) [
      | inl few ↦ (let same : s1 ≡ s = secs ∙ take_all 32 s (omega (arith, few)) in
          let u1 : List ℕ = micros front s in
          let after : u1 ≡ take (36 - (5 + length s)) u = ap (λ (l : List ℕ). digits_of l)
          (drop-take-any (5 + length s) 36 log) ∙ digits-take (36 - (5 + length s)) (drop (5 + length s) log) in
          ap (λ (q : List ℕ). parse front q (micros front q)) same ∙ elim (cases_lt (length u) 10) [
            | inl short ↦ ap (λ (q : List ℕ). parse front s q)
                (after ∙ take_all (36 - (5 + length s)) u (omega (arith, few, short)))
                ∙ parse-front log s u (omega (arith, few)) (omega (arith, short))
            | inr long ↦ long-micros _ s _ u1 _ (omega (
              arith,
              ap length after,
              length-take (36 - (5 + length s)) u,
              few,
              long,
            )) ∙ sym (long-micros _ s _ u _ long)
          ])
      | inr many ↦ long-secs _ s1 _ (micros front s1) _ (omega (arith, ap length secs, length-take 32 s, many))
          ∙ sym (long-secs _ s _ u _ many)
    ] ∙ sym (parse-is log)

-- the front of a log that was copied
pub line-copied : (log old new : List ℕ) (n : ℕ) → n ≡ min (length log - 0) (length old) → length old ≡ 36
    → new ≡ take n (drop 0 log) ++ drop n old → has_line (take n new) ≡ has_line log
line-copied log old new n en eo e =
    let long : length (take n log) ≡ n = omega (arith, length-take n log, en) in
    let same : take n new ≡ take n log =
    ap (take n) e ∙ ap (λ (m : ℕ). take m (take n log ++ drop n old)) (sym long)
    ∙ take-append_seam (take n log) (drop n old) in
    let whole : take n log ≡ take 36 log = elim (cases_lt (length log) 36) [
      | inl less ↦ take_all n log (omega (arith, en, eo, less)) ∙ sym (take_all 36 log (omega (arith, less)))
      | inr enough ↦ ap (λ (m : ℕ). take m log) (let f : n ≡ 36 = omega (arith, en, eo, enough) in f)
    ] in
    ap (λ (l : List ℕ). is_some (read_line l)) (same ∙ whole) ∙ ap (λ (o : Option TimeLine). is_some o) (line-front log)
