-- A time line by its parts: what the reader finds, and what the writer leaves
use Rattle.std.proofs.Common.{◌≡◌, ℕ, suc, ◌+◌, ◌-◌, ◌<◌, ◌≤◌, ◌^◌, Bool, true, false, List, [], ◌∷◌, ◌++◌, length}
use Rattle.std.proofs.Common.{take, drop, refl, sym, ap, ◌∙◌, arith, None, Some, leb, length-drop, length-append}
use Rattle.std.proofs.Common.{append_assoc}
use Rattle.std.specs.Prelude.{codes, decimal, ◌&&◌, nat_le, nat_lt, if◌then◌else◌, Option, is_some, unwrap_or}
use Rattle.std.specs.Option.{option_map}
use Rattle.std.proofs.Math.Bool.{and-false}
use Rattle.std.proofs.Math.Seq.{drop-append_seam, drop-append-add}
use Rattle.std.proofs.Math.Nat.{pow-le-pow_right}
use Rattle.std.proofs.lemmas.Grind.{common_steps}
use Rattle.std.proofs.lemmas.Bool.{le-leb, lt-ltb, le-ltb, leb-true, true≢false}
use Rattle.zone_spec.specs.declared.Time.{Time}
use Rattle.zone_spec.specs.declared.TimeLine.{TimeLine}
use Rattle.zone_spec.specs.TimeLines.{digits_of, number_of, begins_with, line_with, line_ending, line_text, six_digits}
use Rattle.zone_spec.specs.TimeLines.{read_line}
use Rattle.dump_records.specs.declared.Number.{Number}
use Rattle.dump_records.specs.declared.Ending.{Ending}
use Rattle.dump_records.specs.Parts.{number_at, number_up_to, ending_at}
use Rattle.dump_records.proofs.Decimals.{IsNumber, IsSix, decimal-IsNumber, six_digits-IsSix, digits_of-digits}
use Rattle.dump_records.proofs.Decimals.{secs-short}

-- the digits of the seconds, and those of the microseconds
abbrev pub secs_of : List ℕ → List ℕ
secs_of log = digits_of (drop 4 log)

abbrev pub micros_of : List ℕ → List ℕ
micros_of log = digits_of (drop (5 + length (secs_of log)) log)

-- whether digits are 1 to `most`
abbrev pub fits : ℕ → List ℕ → Bool
fits most ds = nat_le 1 (length ds) && nat_le (length ds) most

-- what a line asks, but for its ending
abbrev pub has_front : List ℕ → Bool
has_front log =
    begins_with (codes "====") log && nat_le 1 (length (secs_of log)) && nat_le (length (secs_of log)) 19 && nat_lt
    (number_of (secs_of log)) (2 ^ 63)
    && begins_with (codes ".") (drop (4 + length (secs_of log)) log) && nat_le 1 (length (micros_of log)) && nat_le
    (length (micros_of log)) 9

abbrev pub rest_of : List ℕ → List ℕ
rest_of log = drop (5 + length (secs_of log) + length (micros_of log)) log

read_line-front : (log : List ℕ) → read_line log ≡ if has_front log then line_ending (secs_of log) (micros_of log)
    (rest_of log) else None
unfolding read_line
read_line-front log = refl

no_front : (log : List ℕ) → has_front log ≡ false → None ≡ read_line log
no_front log e = sym (read_line-front log ∙ rw e refl)

both : (f a b : Bool) → (a && b) ≡ false → ((f && a) && b) ≡ false
both true a b e = e
both false a b e = refl

pub none-mark : (log : List ℕ) → begins_with (codes "====") log ≡ false → None ≡ read_line log
none-mark log e = no_front log (rw e refl)

pub none-secs : (log : List ℕ) → fits 19 (secs_of log) ≡ false → None ≡ read_line log
none-secs log e = no_front log (rw (both (begins_with (codes "====") log) (nat_le 1 (length (secs_of log)))
    (nat_le (length (secs_of log)) 19) e) refl)

pub none-large : (log : List ℕ) → nat_lt (number_of (secs_of log)) (2 ^ 63) ≡ false → None ≡ read_line log
none-large log e = no_front log (rw (
  e,
  and-false (begins_with (codes "====") log && nat_le 1 (length (secs_of log))
      && nat_le (length (secs_of log)) 19),
) refl)

pub none-point : (log : List ℕ) → begins_with (codes ".") (drop (4 + length (secs_of log)) log) ≡ false
    → None ≡ read_line log
none-point log e = no_front log (rw (
  e,
  and-false (begins_with (codes "====") log && nat_le 1 (length (secs_of log))
      && nat_le (length (secs_of log)) 19 && nat_lt (number_of (secs_of log)) (2 ^ 63)),
) refl)

pub none-micros : (log : List ℕ) → fits 9 (micros_of log) ≡ false → None ≡ read_line log
none-micros log e = no_front log (both
    (begins_with (codes "====") log && nat_le 1 (length (secs_of log)) && nat_le (length (secs_of log)) 19 && nat_lt
    (number_of (secs_of log)) (2 ^ 63) && begins_with (codes ".") (drop (4 + length (secs_of log)) log))
    (nat_le 1 (length (micros_of log))) (nat_le (length (micros_of log)) 9) e)

-- a log whose front is a line's
pub record IsFront (log : List ℕ) : Type 0 where
  pub mark : begins_with (codes "====") log ≡ true
  pub secs : fits 19 (secs_of log) ≡ true
  pub small : nat_lt (number_of (secs_of log)) (2 ^ 63) ≡ true
  pub point : begins_with (codes ".") (drop (4 + length (secs_of log)) log) ≡ true
  pub micros : fits 9 (micros_of log) ≡ true

all_true : (mark s1 s19 small point m1 m9 : Bool) → mark ≡ true → (s1 && s19) ≡ true → small ≡ true → point ≡ true
    → (m1 && m9) ≡ true → (mark && s1 && s19 && small && point && m1 && m9) ≡ true
all_true mark s1 s19 small point m1 m9 e1 e2 e3 e4 e5 = rw (e1, e3, e4) (joined s1 s19 m1 m9 e2 e5)
  where
    joined : (a b c d : Bool) → (a && b) ≡ true → (c && d) ≡ true → (true && a && b && true && true && c && d) ≡ true
    joined true true c d e f = f
    joined true false c d e f = absurd (true≢false (sym e))
    joined false b c d e f = absurd (true≢false (sym e))

pub read_line-ending : (log : List ℕ) → IsFront log → read_line log ≡ line_ending (secs_of log) (micros_of log)
    (rest_of log)
read_line-ending log front =
    read_line-front log
    ∙ rw (all_true (begins_with (codes "====") log) (nat_le 1 (length (secs_of log)))
    (nat_le (length (secs_of log)) 19) (nat_lt (number_of (secs_of log)) (2 ^ 63))
    (begins_with (codes ".") (drop (4 + length (secs_of log)) log)) (nat_le 1 (length (micros_of log)))
    (nat_le (length (micros_of log)) 9)
    front.mark front.secs front.small front.point front.micros) refl

-- what a number that was found, or was not, says of the digits
pub record IsFound (most : ℕ) (ds : List ℕ) (n : Number) : Type 0 where
  pub some : fits most ds ≡ true
  pub value : n.value ≡ number_of ds
  pub len : n.len ≡ length ds

pub number_up_to-some : (most : ℕ) (ds : List ℕ) (n : Number) → number_up_to most ds ≡ Some n → IsFound most ds n
number_up_to-some most ds n e = split (fits most ds) refl
  where
    split : (b : Bool) → fits most ds ≡ b → IsFound most ds n
    split true found =
        let e' : Some (record { value = number_of ds; len = length ds }) ≡ Some n = sym (rw found refl) ∙ e in
        let same = ap (λ (o : Option Number). unwrap_or o n) e' in
        record {
          some = found;
          value = sym (ap (λ (m : Number). m.value) same);
          len = sym (ap (λ (m : Number). m.len) same);
        }
    split false lost = let e' : None ≡ Some n = sym (rw lost refl) ∙ e in absurd (true≢false (sym (ap is_some e')))

pub number_up_to-none : (most : ℕ) (ds : List ℕ) → number_up_to most ds ≡ None → fits most ds ≡ false
number_up_to-none most ds e = split (fits most ds) refl
  where
    split : (b : Bool) → fits most ds ≡ b → fits most ds ≡ false
    split false lost = lost
    split true found = let e' : Some (record { value = number_of ds; len = length ds }) ≡ None =
        sym (rw found refl) ∙ e in absurd (true≢false (ap is_some e'))

-- a line by its ending
line_of : List ℕ → List ℕ → Ending → TimeLine
line_of secs micros ending = line_with secs micros ending.packed ending.len

choice : (a b c : Bool) (f : Ending → TimeLine) (x y z : Ending) →
    (if a then Some (f x) else (if b then Some (f y) else (if c then Some (f z) else None)))
    ≡ option_map f (if a then Some x else (if b then Some y else (if c then Some z else None)))
choice true b c f x y z = refl
choice false true c f x y z = refl
choice false false true f x y z = refl
choice false false false f x y z = refl

line_ending-map : (secs micros rest : List ℕ) → line_ending secs micros rest
    ≡ option_map (line_of secs micros) (ending_at rest)
unfolding line_of
line_ending-map secs micros rest =
    choice (begins_with (10 ∷ []) rest) (begins_with (codes "-D" ++ 10 ∷ []) rest)
    (begins_with (codes "-C" ++ 10 ∷ []) rest) (line_of secs micros)
    (record { packed = false; len = 1 }) (record { packed = false; len = 3 }) (record { packed = true; len = 3 })

-- the seconds that were read
secs_found : (log : List ℕ) (secs : Number) → number_at 19 (drop 4 log) ≡ Some secs → IsFound 19 (secs_of log) secs
secs_found log secs e = number_up_to-some 19 (secs_of log) secs e

-- what is read up to the microseconds
pub record IsSecs (log : List ℕ) (secs : Number) : Type 0 where
  pub mark : begins_with (codes "====") log ≡ true
  pub number : number_at 19 (drop 4 log) ≡ Some secs
  pub small : secs.value < 2 ^ 63
  pub point : begins_with (codes ".") (drop (4 + secs.len) log) ≡ true

pub record IsMicros (log : List ℕ) (secs micros : Number) : Type 0 where
  pub read : IsSecs log secs
  pub number : number_at 9 (drop (5 + secs.len) log) ≡ Some micros

front_is : (log : List ℕ) (secs micros : Number) (read : IsMicros log secs micros) → IsFound 19 (secs_of log) secs
    → IsFound 9 (micros_of log) micros → IsFront log
front_is log secs micros read found micros_found = record {
  mark = read.read.mark;
  secs = found.some;
  small = lt-ltb (number_of (secs_of log)) (2 ^ 63) (rw (← found.value) read.read.small);
  point = rw (← found.len) read.read.point;
  micros = micros_found.some;
}

micros_found : (log : List ℕ) (secs micros : Number) → IsMicros log secs micros → IsFound 19 (secs_of log) secs
    → IsFound 9 (micros_of log) micros
micros_found log secs micros read found = number_up_to-some 9 (micros_of log) micros (rw (← found.len) read.number)

ending_is : (log : List ℕ) (secs micros : Number) → IsMicros log secs micros
    → read_line log ≡ option_map (line_of (secs_of log) (micros_of log))
    (ending_at (drop (5 + secs.len + micros.len) log))
ending_is log secs micros read =
    let found = secs_found log secs read.read.number in
    let of_micros = micros_found log secs micros read found in
    read_line-ending log (front_is log secs micros read found of_micros)
    ∙ line_ending-map (secs_of log) (micros_of log) (rest_of log)
    ∙ rw (found.len, of_micros.len) refl

pub answer-some : (log : List ℕ) (secs micros : Number) (ending : Ending) → IsMicros log secs micros
    → ending_at (drop (5 + secs.len + micros.len) log) ≡ Some ending →
    Some (record {
      time = record { secs = secs.value; micros = micros.value };
      packed = ending.packed;
      len = 5 + secs.len + micros.len + ending.len;
    }) ≡ read_line log
unfolding line_of
answer-some log secs micros ending read e =
    let found = secs_found log secs read.read.number in
    let of_micros = micros_found log secs micros read found in
    sym (ending_is log secs micros read ∙ rw e (rw (← of_micros.value, ← of_micros.len, ← found.value, ← found.len)
    refl))

pub answer-no_ending : (log : List ℕ) (secs micros : Number) → IsMicros log secs micros
    → ending_at (drop (5 + secs.len + micros.len) log) ≡ None → None ≡ read_line log
answer-no_ending log secs micros read e = sym (ending_is log secs micros read ∙ rw e refl)

pub answer-no_micros : (log : List ℕ) (secs : Number) → IsSecs log secs → number_at 9 (drop (5 + secs.len) log) ≡ None
    → None ≡ read_line log
answer-no_micros log secs read e = let found = secs_found log secs read.number in
    none-micros log (number_up_to-none 9 (micros_of log) (rw (← found.len) e))

pub answer-no_point : (log : List ℕ) (secs : Number) → number_at 19 (drop 4 log) ≡ Some secs
    → begins_with (codes ".") (drop (4 + secs.len) log) ≡ false → None ≡ read_line log
answer-no_point log secs e point = let found = secs_found log secs e in none-point log (rw (← found.len) point)

pub answer-large : (log : List ℕ) (secs : Number) → number_at 19 (drop 4 log) ≡ Some secs → 2 ^ 63 ≤ secs.value
    → None ≡ read_line log
answer-large log secs e large = let found = secs_found log secs e in
    none-large log (le-ltb (number_of (secs_of log)) (2 ^ 63) (rw (← found.value) large))

pub answer-no_secs : (log : List ℕ) → number_at 19 (drop 4 log) ≡ None → None ≡ read_line log
answer-no_secs log e = none-secs log (number_up_to-none 19 (secs_of log) e)

-- microseconds of at most nine digits
pub micros_small : (most : ℕ) (ds : List ℕ) (n : Number) → number_up_to most ds ≡ Some n → n.value < 10 ^ n.len
    → n.value < 10 ^ most
micros_small most ds n e small =
    let found = number_up_to-some most ds n e in
    omega (
      arith,
      small,
      pow-le-pow_right {n = 10} (omega arith) {i = n.len} {j = most}
          (rw found.len (few (leb 1 (length ds)) most (length ds) found.some)),
    )
  where
    few : (a : Bool) (most k : ℕ) → (a && leb k most) ≡ true → k ≤ most
    few true most k e = leb-true k most e
    few false most k e = absurd (true≢false (sym e))

-- the same of a text cut off in front
cut : (from : ℕ) (log : List ℕ) → take (length log - from) (drop from log) ≡ drop from log
cut from log = take_all (drop from log) (length log - from) (omega (arith, length-drop from log))
  where
    take_all : (xs : List ℕ) (n : ℕ) → length xs ≤ n → take n xs ≡ xs
    take_all xs n le = grind (arith, common_steps)

pub number_cut : (most from : ℕ) (log : List ℕ) (r : Option Number)
    → r ≡ number_at most (take (length log - from) (drop from log)) → number_at most (drop from log) ≡ r
number_cut most from log r e = sym (e ∙ ap (λ (text : List ℕ). number_at most text) (cut from log))

pub front_cut : (front : List ℕ) (from : ℕ) (log : List ℕ) (r : Bool)
    → r ≡ begins_with front (take (length log - from) (drop from log)) → begins_with front (drop from log) ≡ r
front_cut front from log r e = sym (e ∙ ap (λ (text : List ℕ). begins_with front text) (cut from log))

pub ending_cut : (from : ℕ) (log : List ℕ) (r : Option Ending)
    → r ≡ ending_at (take (length log - from) (drop from log)) → ending_at (drop from log) ≡ r
ending_cut from log r e = sym (e ∙ ap (λ (text : List ℕ). ending_at text) (cut from log))

-- a line's bytes one by one, by its parts
flag_of : Bool → ℕ
flag_of packed = if packed then 67 else 68

abbrev pub laid_out : List ℕ → List ℕ → ℕ → List ℕ → List ℕ
laid_out secs micros flag more = 61 ∷ 61 ∷ 61 ∷ 61 ∷ (secs ++ 46 ∷ (micros ++ 45 ∷ flag ∷ 10 ∷ more))

joined : (secs micros flag more : List ℕ) → ((((secs ++ 46 ∷ []) ++ micros) ++ flag) ++ 10 ∷ []) ++ more
    ≡ secs ++ 46 ∷ (micros ++ (flag ++ 10 ∷ more))
joined secs micros flag more = simp append_assoc refl

line_laid_out : (time : Time) (packed : Bool) (more : List ℕ)
    → line_text time packed ++ more ≡ laid_out (decimal time.secs) (six_digits time.micros) (flag_of packed) more
unfolding flag_of
line_laid_out time true more = ap (λ (xs : List ℕ). 61 ∷ 61 ∷ 61 ∷ 61 ∷ xs)
    (joined (decimal time.secs) (six_digits time.micros) (codes "-C") more)
line_laid_out time false more = ap (λ (xs : List ℕ). 61 ∷ 61 ∷ 61 ∷ 61 ∷ xs)
    (joined (decimal time.secs) (six_digits time.micros) (codes "-D") more)

drop-more : (n k : ℕ) (xs ys : List ℕ) → n ≡ length xs + k → drop n (xs ++ ys) ≡ drop k ys
drop-more n k xs ys e = rw e (drop-append-add xs ys k)

fits_is : (most : ℕ) (ds : List ℕ) → 1 ≤ length ds → length ds ≤ most → fits most ds ≡ true
fits_is most ds one few = rw (le-leb 1 (length ds) one, le-leb (length ds) most few) refl

-- digits that a line can have
record AreWritten (time : Time) (secs micros : List ℕ) : Type 0 where
  number : IsNumber time.secs secs
  few : length secs ≤ 19
  small : time.secs < 2 ^ 63
  six : IsSix time.micros micros

secs_laid_out : (time : Time) (secs micros more : List ℕ) (flag : ℕ) → AreWritten time secs micros
    → secs_of (laid_out secs micros flag more) ≡ secs
secs_laid_out time secs micros more flag written = digits_of-digits secs 46 (micros ++ 45 ∷ flag ∷ 10 ∷ more)
    written.number.digits refl

behind_secs : (n k : ℕ) (secs micros more : List ℕ) (flag : ℕ) → n ≡ 4 + length secs + k
    → drop n (laid_out secs micros flag more) ≡ drop k (46 ∷ (micros ++ 45 ∷ flag ∷ 10 ∷ more))
behind_secs n k secs micros more flag e = drop-more n k (61 ∷ 61 ∷ 61 ∷ 61 ∷ secs)
    (46 ∷ (micros ++ 45 ∷ flag ∷ 10 ∷ more)) (omega (arith, e))

micros_laid_out : (time : Time) (secs micros more : List ℕ) (flag : ℕ) → AreWritten time secs micros
    → micros_of (laid_out secs micros flag more) ≡ micros
micros_laid_out time secs micros more flag written =
    ap (λ (ds : List ℕ). digits_of (drop (5 + length ds) (laid_out secs micros flag more)))
    (secs_laid_out time secs micros more flag written)
    ∙ ap (λ (xs : List ℕ). digits_of xs) (behind_secs (5 + length secs) 1 secs micros more flag (omega arith))
    ∙ digits_of-digits micros 45 (flag ∷ 10 ∷ more) written.six.number.digits refl

front_laid_out : (time : Time) (secs micros more : List ℕ) (flag : ℕ) → AreWritten time secs micros
    → IsFront (laid_out secs micros flag more)
front_laid_out time secs micros more flag written = record {
  mark = refl;
  secs = rw (secs_laid_out time secs micros more flag written) (fits_is 19 secs written.number.some written.few);
  small = rw (secs_laid_out time secs micros more flag written, written.number.value)
      (lt-ltb time.secs (2 ^ 63) written.small);
  point = rw (
    secs_laid_out time secs micros more flag written,
    behind_secs (4 + length secs) 0 secs micros more flag (omega arith),
  ) refl;
  micros = rw (micros_laid_out time secs micros more flag written)
      (fits_is 9 micros written.six.number.some (omega (arith, written.six.six)));
}

rest_laid_out : (time : Time) (secs micros more : List ℕ) (flag : ℕ) → AreWritten time secs micros
    → rest_of (laid_out secs micros flag more) ≡ 45 ∷ flag ∷ 10 ∷ more
rest_laid_out time secs micros more flag written =
    ap (λ (ds : List ℕ). drop (5 + length ds + length (micros_of (laid_out secs micros flag more)))
    (laid_out secs micros flag more)) (secs_laid_out time secs micros more flag written)
    ∙ ap (λ (ds : List ℕ). drop (5 + length secs + length ds) (laid_out secs micros flag more))
    (micros_laid_out time secs micros more flag written)
    ∙ behind_secs (5 + length secs + length micros) (suc (length micros)) secs micros more flag (omega arith)
    ∙ drop-append_seam micros (45 ∷ flag ∷ 10 ∷ more)

ending_laid_out : (packed : Bool) (secs micros more : List ℕ)
    → line_ending secs micros (45 ∷ flag_of packed ∷ 10 ∷ more) ≡ Some (line_with secs micros packed 3)
unfolding flag_of
ending_laid_out true secs micros more = refl
ending_laid_out false secs micros more = refl

read_laid_out : (time : Time) (packed : Bool) (secs micros more : List ℕ) → AreWritten time secs micros →
    read_line (laid_out secs micros (flag_of packed) more)
    ≡ Some (record { time = time; packed = packed; len = 5 + length secs + length micros + 3 })
read_laid_out time packed secs micros more written =
    read_line-ending (laid_out secs micros (flag_of packed) more)
    (front_laid_out time secs micros more (flag_of packed) written)
    ∙ rw (
      rest_laid_out time secs micros more (flag_of packed) written,
      micros_laid_out time secs micros more (flag_of packed) written,
      secs_laid_out time secs micros more (flag_of packed) written,
    )
    (ending_laid_out packed secs micros more ∙ rw (written.number.value, written.six.number.value) refl)

-- how long a line is
len_of : (secs micros flag : List ℕ) → length flag ≡ 2
    → suc (suc (suc (suc (length ((((secs ++ 46 ∷ []) ++ micros) ++ flag) ++ 10 ∷ [])))))
    ≡ 5 + length secs + length micros + 3
len_of secs micros flag two = omega (
  arith,
  two,
  length-append (((secs ++ 46 ∷ []) ++ micros) ++ flag) (10 ∷ []),
  length-append ((secs ++ 46 ∷ []) ++ micros) flag,
  length-append (secs ++ 46 ∷ []) micros,
  length-append secs (46 ∷ []),
)

line_len : (time : Time) (packed : Bool) → length (line_text time packed) ≡ 5 + length (decimal time.secs) + length
    (six_digits time.micros) + 3
line_len time true = len_of (decimal time.secs) (six_digits time.micros) (codes "-C") refl
line_len time false = len_of (decimal time.secs) (six_digits time.micros) (codes "-D") refl

written_of : (time : Time) → time.secs < 2 ^ 63 → time.micros < 1000000
    → AreWritten time (decimal time.secs) (six_digits time.micros)
written_of time secs_small micros_small = record {
  number = decimal-IsNumber time.secs (omega (arith, secs_small));
  few = secs-short time.secs secs_small;
  small = secs_small;
  six = six_digits-IsSix time.micros micros_small;
}

pub read_back : (time : Time) (packed : Bool) (more : List ℕ) → time.secs < 2 ^ 63 → time.micros < 1000000 →
    read_line (line_text time packed ++ more) ≡ Some (record
    { time = time; packed = packed; len = length (line_text time packed) })
read_back time packed more secs_small micros_small =
    ap (λ (xs : List ℕ). read_line xs) (line_laid_out time packed more)
    ∙ read_laid_out time packed (decimal time.secs) (six_digits time.micros) more
    (written_of time secs_small micros_small)
    ∙ ap (λ (n : ℕ). Some (record { time = time; packed = packed; len = n })) (sym (line_len time packed))

pub short : (time : Time) (packed : Bool) → time.secs < 2 ^ 63 → time.micros < 1000000
    → length (line_text time packed) ≤ 36
short time packed secs_small micros_small =
    let written = written_of time secs_small micros_small in
    omega (arith, line_len time packed, written.few, written.six.six)
