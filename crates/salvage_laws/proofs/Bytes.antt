-- The words of a ring have the known bytes
use Rattle.std.proofs.Common.{◌≡◌, ℕ, zero, suc, ◌+◌, ◌*◌, ◌/◌, ◌%◌, ◌<◌, ◌≤◌, if◌then◌else◌, nat_lt, List, [], ◌∷◌}
use Rattle.std.proofs.Common.{length, get_or, refl, sym, ap, ◌∙◌, arith, Option, Some, None, true, false, Bool, w32}
use Rattle.std.specs.List.{AllByRecursion}
use Rattle.std.proofs.lemmas.Bool.Decides.{nat_tests}
use Rattle.zone_spec.specs.declared.Zone.{Zone}
use Rattle.zone_spec.specs.Zones.{IsValidZone}
use Rattle.zone_spec.specs.Parts.{words_in}
use Rattle.salvage_spec.specs.Rings.{IsRingOf}
use Rattle.salvage_laws.specs.Known.{put_in, known, known_of}
use Rattle.salvage_laws.proofs.KnownBytes.{AreKnown}
use Rattle.zone_spec.specs.WordBytes.{turned, word_bytes, word_of}
use Rattle.zone_spec.specs.declared.params.ByteOrder.{ByteOrder}
use Rattle.zone_spec.specs.declared.params.ByteOrder.TheVariants.{Little, Big}
use Rattle.std.specs.Int.{from_le_bytes, swap_bytes}
use Rattle.std.proofs.Common.{subst, ◌++◌}
use Rattle.word_laws.proofs.WordBytes.{turned-sum, word_bytes-word_of}

-- what a list agrees with, byte for byte
abbrev Agrees : List (Option ℕ) → List ℕ → Type 0
Agrees [] w = Unit {0}
Agrees (k ∷ ks) [] = Unit {0}
Agrees (None ∷ ks) (b ∷ w) = Agrees ks w
Agrees (Some k ∷ ks) (b ∷ w) = (k ≡ b) × Agrees ks w

agreed : (ks : List (Option ℕ)) (w : List ℕ) → Agrees ks w → put_in ks w ≡ w
unfolding put_in
agreed [] w h = refl
agreed (k ∷ ks) [] h = refl
agreed (None ∷ ks) (b ∷ w) h = ap (λ xs. b ∷ xs) (agreed ks w h)
agreed (Some k ∷ ks) (b ∷ w) h = ap (λ x. x ∷ put_in ks w) h.0 ∙ ap (λ xs. b ∷ xs) (agreed ks w h.1)

cap_below : (z : Zone) → IsValidZone z → z.cap < 16777216
cap_below z v = omega (arith, v.cap, v.at_most)

if_known : Bool → Option ℕ
if_known b = if b then Some 0 else None

agrees_of : (order : ByteOrder) (top a b c d : ℕ) (ks : List (Option ℕ)) (w : List ℕ) → top < 16777216 → a < 256
    → b < 256 → c < 256 → d < 256 → word_of order (a ∷ b ∷ c ∷ d ∷ []) ≤ top → Agrees ks w
    → Agrees (known_of order top ++ ks) (a ∷ b ∷ c ∷ d ∷ w)
agrees_of Little top a b c d ks w small la lb lc ld le h = by (nat_lt top 65536) refl
  where
    by : (t : Bool) → nat_lt top 65536 ≡ t
        → Agrees (None ∷ None ∷ (if t then Some 0 else None) ∷ Some 0 ∷ ks) (a ∷ b ∷ c ∷ d ∷ w)
    by true e = (let l : top < 65536 = grind (arith, nat_tests, e) in omega arith, (omega arith, h))
    by false e = (omega arith, h)
agrees_of Big top a b c d ks w small la lb lc ld le h =
    let is : swap_bytes w32 (from_le_bytes w32 (a ∷ b ∷ c ∷ d ∷ [])) ≡ a * 16777216 + b * 65536 + c * 256 + d =
    turned-sum d c b a (from_le_bytes w32 (a ∷ b ∷ c ∷ d ∷ [])) ld lc lb la (omega arith) in
    let sum : a * 16777216 + b * 65536 + c * 256 + d ≤ top = subst (λ n. n ≤ top) is le in
    by sum (nat_lt top 65536) refl
  where
    by : a * 16777216 + b * 65536 + c * 256 + d ≤ top → (t : Bool) → nat_lt top 65536 ≡ t
        → Agrees (Some 0 ∷ (if t then Some 0 else None) ∷ None ∷ None ∷ ks) (a ∷ b ∷ c ∷ d ∷ w)
    by sum true e = (omega arith, (let l : top < 65536 = grind (arith, nat_tests, e) in omega arith, h))
    by sum false e = (omega arith, h)

small_4 : (a b c d : ℕ) → a < 256 → b < 256 → c < 256 → d < 256 → (i : ℕ) → get_or (a ∷ b ∷ c ∷ d ∷ []) i 0 < 256
small_4 a b c d la lb lc ld zero = la
small_4 a b c d la lb lc ld (suc zero) = lb
small_4 a b c d la lb lc ld (suc (suc zero)) = lc
small_4 a b c d la lb lc ld (suc (suc (suc zero))) = ld
small_4 a b c d la lb lc ld (suc (suc (suc (suc i)))) = omega arith

abbrev header : ℕ → ℕ → ℕ → ℕ → ℕ → ℕ → ℕ → ℕ → ℕ → ℕ → ℕ → ℕ → List ℕ → List ℕ
header a b c d e f g h i j k l rest = a ∷ b ∷ c ∷ d ∷ e ∷ f ∷ g ∷ h ∷ i ∷ j ∷ k ∷ l ∷ rest

agrees_known : (z : Zone) (a b c d e f g h i j k l : ℕ) (rest : List ℕ) → IsValidZone z
    → AllByRecursion (λ x. x < 256) (header a b c d e f g h i j k l rest)
    → IsRingOf z (words_in z.byte_order (header a b c d e f g h i j k l rest))
    → Agrees (known z) (header a b c d e f g h i j k l rest)
agrees_known z a b c d e f g h i j k l rest valid bytes is =
    let la : a < 256 = bytes.0 in
    let lb : b < 256 = bytes.1.0 in
    let lc : c < 256 = bytes.1.1.0 in
    let ld : d < 256 = bytes.1.1.1.0 in
    let le : e < 256 = bytes.1.1.1.1.0 in
    let lf : f < 256 = bytes.1.1.1.1.1.0 in
    let lg : g < 256 = bytes.1.1.1.1.1.1.0 in
    let lh : h < 256 = bytes.1.1.1.1.1.1.1.0 in
    let li : i < 256 = bytes.1.1.1.1.1.1.1.1.0 in
    let lj : j < 256 = bytes.1.1.1.1.1.1.1.1.1.0 in
    let lk : k < 256 = bytes.1.1.1.1.1.1.1.1.1.1.0 in
    let ll : l < 256 = bytes.1.1.1.1.1.1.1.1.1.1.1.0 in
    let sig : word_of z.byte_order (a ∷ b ∷ c ∷ d ∷ []) ≡ z.sig = is.sig in
    let s : word_bytes z.byte_order z.sig ≡ a ∷ b ∷ c ∷ d ∷ [] =
    ap (word_bytes z.byte_order) (sym sig)
    ∙ word_bytes-word_of z.byte_order (a ∷ b ∷ c ∷ d ∷ []) refl (small_4 a b c d la lb lc ld) in
    let size : word_of z.byte_order (i ∷ j ∷ k ∷ l ∷ []) ≤ z.cap = is.ring.1 in
    let below : word_of z.byte_order (e ∷ f ∷ g ∷ h ∷ []) ≤ word_of z.byte_order (i ∷ j ∷ k ∷ l ∷ []) = is.ring.0 in (
      ap (λ (xs : List ℕ). get_or xs 0 0) s,
      (
        ap (λ (xs : List ℕ). get_or xs 1 0) s,
        (
          ap (λ (xs : List ℕ). get_or xs 2 0) s,
          (
            ap (λ (xs : List ℕ). get_or xs 3 0) s,
            agrees_of z.byte_order z.cap e f g h (known_of z.byte_order z.cap) (i ∷ j ∷ k ∷ l ∷ rest) (cap_below z valid)
                le lf lg lh (omega (arith, size, below))
                (agrees_of z.byte_order z.cap i j k l [] rest (cap_below z valid) li lj lk ll size tt),
          ),
        ),
      ),
    )

-- the words of a ring of the shape have its known bytes
pub has_known : (z : Zone) (c : List ℕ) → IsValidZone z → 12 ≤ length c → AllByRecursion (λ x. x < 256) c
    → IsRingOf z (words_in z.byte_order c) → put_in (known z) c ≡ c
has_known z (a ∷ b ∷ c ∷ d ∷ e ∷ f ∷ g ∷ h ∷ i ∷ j ∷ k ∷ l ∷ rest) v n bytes is =
    agreed (known z) (header a b c d e f g h i j k l rest)
    (agrees_known z a b c d e f g h i j k l rest v bytes is)
has_known z [] v n bytes is = absurd (omega arith)
has_known z (a ∷ []) v n bytes is = absurd (omega arith)
has_known z (a ∷ b ∷ []) v n bytes is = absurd (omega arith)
has_known z (a ∷ b ∷ c ∷ []) v n bytes is = absurd (omega arith)
has_known z (a ∷ b ∷ c ∷ d ∷ []) v n bytes is = absurd (omega arith)
has_known z (a ∷ b ∷ c ∷ d ∷ e ∷ []) v n bytes is = absurd (omega arith)
has_known z (a ∷ b ∷ c ∷ d ∷ e ∷ f ∷ []) v n bytes is = absurd (omega arith)
has_known z (a ∷ b ∷ c ∷ d ∷ e ∷ f ∷ g ∷ []) v n bytes is = absurd (omega arith)
has_known z (a ∷ b ∷ c ∷ d ∷ e ∷ f ∷ g ∷ h ∷ []) v n bytes is = absurd (omega arith)
has_known z (a ∷ b ∷ c ∷ d ∷ e ∷ f ∷ g ∷ h ∷ i ∷ []) v n bytes is = absurd (omega arith)
has_known z (a ∷ b ∷ c ∷ d ∷ e ∷ f ∷ g ∷ h ∷ i ∷ j ∷ []) v n bytes is = absurd (omega arith)
has_known z (a ∷ b ∷ c ∷ d ∷ e ∷ f ∷ g ∷ h ∷ i ∷ j ∷ k ∷ []) v n bytes is = absurd (omega arith)

-- they are bytes
pub are_known : (z : Zone) → AreKnown (known z)
are_known z =
    let low : (n : ℕ) → n % 256 < 256 = (λ n. omega arith) in
    let sig : ℕ = turned z.byte_order z.sig in (
      low sig,
      (
        low (sig / 256),
        (
          low (sig / 65536),
          (
            low (sig / 16777216),
            of z.byte_order z.cap (known_of z.byte_order z.cap)
                (of z.byte_order z.cap [] tt),
          ),
        ),
      ),
    )
  where
    of : (order : ByteOrder) (top : ℕ) (ks : List (Option ℕ)) → AreKnown ks → AreKnown (known_of order top ++ ks)
    of Little top ks h = by (nat_lt top 65536)
      where
        by : (t : Bool) → AreKnown (None ∷ None ∷ (if t then Some 0 else None) ∷ Some 0 ∷ ks)
        by true = (omega arith, (omega arith, h))
        by false = (omega arith, h)
    of Big top ks h = by (nat_lt top 65536)
      where
        by : (t : Bool) → AreKnown (Some 0 ∷ (if t then Some 0 else None) ∷ None ∷ None ∷ ks)
        by true = (omega arith, (omega arith, h))
        by false = (omega arith, h)
