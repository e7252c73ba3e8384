-- A time line lies within its log
use Rattle.std.proofs.Common.{◌≡◌, ℕ, ◌+◌, ◌≤◌, Bool, true, false, List, [], ◌∷◌, ◌++◌, length, take, drop, refl, sym}
use Rattle.std.proofs.Common.{ap, ◌∙◌, arith, Option, Some, None, length-take, length-drop}
use Rattle.std.specs.Prelude.{codes, if◌then◌else◌}
use Rattle.std.proofs.lemmas.Slice.Eq.{bytes_eq-Decides}
use Rattle.zone_spec.specs.declared.TimeLine.{TimeLine}
use Rattle.zone_spec.specs.TimeLines.{begins_with, digits_of, line_with, line_ending, read_line}

chosen : {A : Type 0} (b : Bool) (o : Option A) (x : A) → (if b then o else None) ≡ Some x → o ≡ Some x
chosen true o x e = e
chosen false o x e = cc

begins-fits : (front xs : List ℕ) → begins_with front xs ≡ true → length front ≤ length xs
begins-fits front xs e =
    let same : take (length front) xs ≡ front = (bytes_eq-Decides (take (length front) xs) front).0 e in
    omega (arith, ap length same, length-take (length front) xs)

ending-fits : (secs micros rest : List ℕ) (line : TimeLine) → line_ending secs micros rest ≡ Some line
    → line.len ≤ 5 + length secs + length micros + length rest
ending-fits secs micros rest line e = by-plain (begins_with (10 ∷ []) rest) (begins_with (codes "-D" ++ 10 ∷ []) rest)
    (begins_with (codes "-C" ++ 10 ∷ []) rest)
    (begins-fits (10 ∷ []) rest) (begins-fits (codes "-D" ++ 10 ∷ []) rest) (begins-fits (codes "-C" ++ 10 ∷ []) rest) e
  where
    of-line : (packed : Bool) (n : ℕ) → Some (line_with secs micros packed n) ≡ Some line → n ≤ length rest
        → line.len ≤ 5 + length secs + length micros + length rest
    of-line packed n same fits = let e : line_with secs micros packed n ≡ line = cc in
        omega (arith, ap (λ (l : TimeLine). l.len) e, fits)

    by-plain : (plain d c : Bool) → (plain ≡ true → 1 ≤ length rest) → (d ≡ true → 3 ≤ length rest)
        → (c ≡ true → 3 ≤ length rest)
        → (if plain then Some (line_with secs micros false 1) else
        (if d then Some (line_with secs micros false 3) else
        (if c then Some (line_with secs micros true 3) else None))) ≡ Some line
        → line.len ≤ 5 + length secs + length micros + length rest
    by-plain true d c p q r same = of-line false 1 same (p refl)
    by-plain false true c p q r same = of-line false 3 same (q refl)
    by-plain false false true p q r same = of-line true 3 same (r refl)
    by-plain false false false p q r same = cc

-- the rest is what the digits leave
line-fits : (log : List ℕ) (line : TimeLine) → Some line ≡ read_line log → line.len ≤ length log
unfolding read_line
line-fits log line e =
    let secs = digits_of (drop 4 log) in
    let micros = digits_of (drop (5 + length secs) log) in
    let rest = drop (5 + length secs + length micros) log in
    let ended : line_ending secs micros rest ≡ Some line = chosen _ (line_ending secs micros rest) line (sym e) in
    let some : 1 ≤ length rest = ending-some secs micros rest line ended in
    omega (arith, ending-fits secs micros rest line ended, length-drop (5 + length secs + length micros) log, some)
  where
    ending-some : (secs micros rest : List ℕ) (line : TimeLine) → line_ending secs micros rest ≡ Some line
        → 1 ≤ length rest
    ending-some secs micros [] line e = cc
    ending-some secs micros (c ∷ rest) line e = omega arith

-- the same of a line that was found
pub line-within : (log : List ℕ) (found : Option TimeLine) (line : TimeLine) → found ≡ read_line log
    → found ≡ Some line → line.len ≤ length log
line-within log found line read was = line-fits log line (sym was ∙ read)
