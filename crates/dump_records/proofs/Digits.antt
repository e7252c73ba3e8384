-- The digits at the front of a text, as they are read one by one
use Rattle.std.proofs.Common.{◌≡◌, ℕ, ◌+◌, ◌-◌, ◌*◌, ◌<◌, ◌≤◌, ◌^◌, true, false, List, [], ◌∷◌, ◌++◌, length, get_or}
use Rattle.std.proofs.Common.{take, refl, sym, ap, ◌∙◌, arith, inl, inr, leb, add-one, None, Some}
use Rattle.std.specs.List.{prefix_len}
use Rattle.std.specs.Char.{is_ascii_digit}
use Rattle.std.proofs.Math.Nat.{pow-succ', pow-le-pow_right}
use Rattle.std.proofs.Math.Bool.{and-false}
use Rattle.std.proofs.lemmas.Bool.{le-leb, lt-leb, true≢false}
use Rattle.std.proofs.lemmas.Bool.Decides.{leb_tells}
use Rattle.std.proofs.lemmas.List.{take_more}
use Rattle.std.proofs.lemmas.List.Sums.{fold-append, prefix_len_passes, prefix_len_stops, prefix_len-le-length}
use Rattle.std.proofs.lemmas.List.Folds.{length-prefix_len}
use Rattle.zone_spec.specs.TimeLines.{digits_of, number_of}
use Rattle.dump_records.specs.Parts.{number_at, number_up_to}

-- the first `len` bytes of a text are digits, of this number
pub record IsRead (text : List ℕ) (value len : ℕ) : Type 0 where
  pub within : len ≤ prefix_len is_ascii_digit text
  pub number : value ≡ number_of (take len text)
  pub small : value < 10 ^ len

pub IsRead-start : (text : List ℕ) → IsRead text 0 0
IsRead-start text = record { within = omega arith; number = refl; small = omega arith }

-- a digit further
pub number_of-push : (ds : List ℕ) (c : ℕ) → number_of (ds ++ c ∷ []) ≡ 10 * number_of ds + (c - 48)
number_of-push ds c = fold-append (λ (n d : ℕ). 10 * n + (d - 48)) 0 ds (c ∷ [])

clash : (text : List ℕ) (len : ℕ) → prefix_len is_ascii_digit text ≡ len → len < length text
    → is_ascii_digit (get_or text len 0) ≡ true → ⊥
clash text len e lt digit =
    let shorter : prefix_len is_ascii_digit text < length text = rw e lt in
    let stops : is_ascii_digit (get_or text (prefix_len is_ascii_digit text) 0) ≡ false =
    prefix_len_stops is_ascii_digit text 0 shorter in
    let stops_here : is_ascii_digit (get_or text len 0) ≡ false = rw e at stops in
    true≢false (sym digit ∙ stops_here)

pub within-more : (text : List ℕ) (len : ℕ) → len ≤ prefix_len is_ascii_digit text → len < length text
    → is_ascii_digit (get_or text len 0) ≡ true → len + 1 ≤ prefix_len is_ascii_digit text
within-more text len within lt digit = elim (leb_tells (len + 1) (prefix_len is_ascii_digit text)) [
  | inl longer ↦ longer.1
  | inr shorter ↦ absurd (clash text len (omega (arith, within, shorter.1)) lt digit)
]

pub IsRead-more : (text : List ℕ) (value len : ℕ) → IsRead text value len → len < length text
    → is_ascii_digit (get_or text len 0) ≡ true → get_or text len 0 ≤ 57
    → IsRead text (10 * value + (get_or text len 0 - 48)) (len + 1)
IsRead-more text value len read lt digit high = record {
  within = within-more text len read.within lt digit;
  number = rw (take_more text len 0 lt, number_of-push (take len text) (get_or text len 0), ← read.number) refl;
  small = let more : 10 ^ (len + 1) ≡ 10 * 10 ^ len = rw add-one (pow-succ' 10 len) in
      omega (arith, more, read.small, high);
}

-- where no digit follows, these are the digits at the front
pub IsRead-end : (text : List ℕ) (value len : ℕ) → IsRead text value len
    → (len < length text → is_ascii_digit (get_or text len 0) ≡ false) → len ≡ prefix_len is_ascii_digit text
IsRead-end text value len read stops = elim (leb_tells (len + 1) (prefix_len is_ascii_digit text)) [
  | inl longer ↦
      let lt : len < length text = omega (arith, longer.1, prefix_len-le-length is_ascii_digit text) in
      absurd (true≢false (sym (prefix_len_passes is_ascii_digit text len 0 (omega (arith, longer.1))) ∙ stops lt))
  | inr shorter ↦ omega (arith, shorter.1, read.within)
]

digits_len : (text : List ℕ) → length (digits_of text) ≡ prefix_len is_ascii_digit text
digits_len text = length-prefix_len is_ascii_digit text

found : (most : ℕ) (ds : List ℕ) (value len : ℕ) → len ≡ length ds → value ≡ number_of ds → 1 ≤ len → len ≤ most
    → Some (record { value = value; len = len }) ≡ number_up_to most ds
found most ds value len same number one short =
    rw (
      same,
      number,
      le-leb 1 (length ds) (omega (arith, same, one)),
      le-leb (length ds) most (omega (arith, same, short)),
    ) refl

-- what is read is the number at the front
pub number_at-read : (most : ℕ) (text : List ℕ) (value len : ℕ) → IsRead text value len
    → (len < length text → is_ascii_digit (get_or text len 0) ≡ false) → 1 ≤ len → len ≤ most
    → Some (record { value = value; len = len }) ≡ number_at most text
number_at-read most text value len read stops one short =
    let whole = IsRead-end text value len read stops in
    found most (digits_of text) value len (whole ∙ sym (digits_len text))
    (read.number ∙ ap (λ (n : ℕ). number_of (take n text)) whole) one short

none_of : (most : ℕ) (ds : List ℕ) → length ds ≡ 0 → None ≡ number_up_to most ds
none_of most ds e = rw e refl

too_many : (most : ℕ) (ds : List ℕ) → most < length ds → None ≡ number_up_to most ds
too_many most ds lt = rw (lt-leb (length ds) most lt, and-false (leb 1 (length ds))) refl

pub number_at-long : (most : ℕ) (text : List ℕ) (value len : ℕ) → IsRead text value len → len < length text
    → is_ascii_digit (get_or text len 0) ≡ true → len ≡ most → None ≡ number_at most text
number_at-long most text value len read lt digit full =
    too_many most (digits_of text) (omega (arith, digits_len text, within-more text len read.within lt digit, full))

-- the number so far has room for one digit more
pub room : (value len : ℕ) → value < 10 ^ len → len < 19 → value < 10 ^ 18
room value len small short = omega (
  arith,
  small,
  pow-le-pow_right {n = 10} (omega arith) {i = len} {j = 18}
      (omega (arith, short)),
)
