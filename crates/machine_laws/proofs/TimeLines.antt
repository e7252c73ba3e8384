-- A time line is of bytes, neither empty nor as long as a zone
use Rattle.std.proofs.Common.{◌≡◌, ℕ, ◌+◌, ◌%◌, ◌^◌, ◌<◌, ◌≤◌, Bool, true, false, cond, nat_lt, List, [], ◌∷◌, ◌++◌}
use Rattle.std.proofs.Common.{length, drop, refl, arith, length-drop, length-append}
use Rattle.std.specs.Prelude.{codes, decimal}
use Rattle.std.proofs.lemmas.Fmt.{decimal_by_steps, length-decimal-le}
use Rattle.zone_spec.specs.Parts.{AreBytes}
use Rattle.ring_laws.proofs.PartWords.{bytes-each}
use Rattle.ring_laws.proofs.EveryParity.{part-bytes}
use Rattle.ring_laws.proofs.StoreBytes.{one-byte}
use Rattle.zone_spec.specs.declared.Time.{Time}
use Rattle.zone_spec.specs.TimeLines.{line_text, six_digits}
use Rattle.machine_spec.specs.Sound.{IsTime}
use Rattle.machine_laws.proofs.Lists.{bytes-join}

decimal-bytes : (n : ℕ) → n < 2 ^ 64 → AreBytes (decimal n)
decimal-bytes = decimal_by_steps (λ n ds. AreBytes ds) (λ n l. one-byte (48 + n) (omega arith))
    (λ n ds l h. bytes-join ds ((48 + n % 10) ∷ []) h (one-byte (48 + n % 10) (omega arith)))

six-digits : (n : ℕ) → n < 1000000 → AreBytes (six_digits n) × (length (six_digits n) ≤ 20)
six-digits n l = by (nat_lt n 1000000)
  where
    by : (b : Bool) → AreBytes (cond b (drop 1 (decimal (1000000 + n))) (decimal n))
        × (length (cond b (drop 1 (decimal (1000000 + n))) (decimal n)) ≤ 20)
    by true = (
      (part-bytes 1 (decimal (1000000 + n)) (decimal-bytes (1000000 + n) (omega arith))).1,
      omega (
        arith,
        length-drop 1 (decimal (1000000 + n)),
        length-decimal-le 20 (1000000 + n) (omega arith) (omega arith) (omega arith),
      ),
    )
    by false = (decimal-bytes n (omega arith), length-decimal-le 20 n (omega arith) (omega arith) (omega arith))

flag-bytes : (packed : Bool) → AreBytes (cond packed (codes "-C") (codes "-D"))
    × (length (cond packed (codes "-C") (codes "-D")) ≡ 2)
flag-bytes true = (bytes-each (codes "-C") (omega arith, (omega arith, tt)), refl)
flag-bytes false = (bytes-each (codes "-D") (omega arith, (omega arith, tt)), refl)

six-lists : (a b c d e f : List ℕ) → length (a ++ b ++ c ++ d ++ e ++ f) ≡ length a + length b + length c + length d
    + length e + length f
six-lists a b c d e f = omega (
  arith,
  length-append (a ++ b ++ c ++ d ++ e) f,
  length-append (a ++ b ++ c ++ d) e,
  length-append (a ++ b ++ c) d,
  length-append (a ++ b) c,
  length-append a b,
)

six-bytes : (a b c d e f : List ℕ) → AreBytes a → AreBytes b → AreBytes c → AreBytes d → AreBytes e → AreBytes f
    → AreBytes (a ++ b ++ c ++ d ++ e ++ f)
six-bytes a b c d e f ha hb hc hd he hf = bytes-join (a ++ b ++ c ++ d ++ e) f
    (bytes-join (a ++ b ++ c ++ d) e (bytes-join (a ++ b ++ c) d (bytes-join (a ++ b) c (bytes-join a b ha hb) hc) hd)
    he) hf

pub line_fits : (time : Time) (packed : Bool) → IsTime time
    → (0 < length (line_text time packed)) × (length (line_text time packed) < 64) × AreBytes (line_text time packed)
line_fits time packed fit =
    let six = six-digits time.micros fit.1 in
    let flag = flag-bytes packed in
    let whole : length (line_text time packed) ≡ 4 + length (decimal time.secs) + 1 + length (six_digits time.micros)
    + length (cond packed (codes "-C") (codes "-D")) + 1 =
    six-lists (codes "====") (decimal time.secs) (codes ".") (six_digits time.micros)
    (cond packed (codes "-C") (codes "-D")) (10 ∷ []) in
    let most : length (decimal time.secs) ≤ 20 = length-decimal-le 20 time.secs (omega arith) (omega (arith, fit.0))
    (omega (arith, fit.0)) in (
      omega (arith, whole),
      omega (arith, whole, most, six.1, flag.1),
      six-bytes (codes "====") (decimal time.secs) (codes ".") (six_digits time.micros)
          (cond packed (codes "-C") (codes "-D")) (10 ∷ [])
          (bytes-each (codes "====") (omega arith, (omega arith, (omega arith, (omega arith, tt)))))
          (decimal-bytes time.secs (omega (arith, fit.0))) (bytes-each (codes ".") (omega arith, tt)) six.0 flag.0
          (one-byte 10 (omega arith)),
    )
