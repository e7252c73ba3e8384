-- What a sieve of headers' words is made of
use Rattle.std.specs.Prelude.{◌≡◌, ◌≢◌, ℕ, suc, ◌+◌, ◌*◌, ◌^◌, ◌%◌, if◌then◌else◌, nat_lt, ◌-◌, ◌≤◌, ◌<◌, ◌⊎◌, List, [], Bool, true, false}
use Rattle.std.specs.Prelude.{◌∷◌, length, slice_index, slice_index_or, Option, None, All, MatchOption}
use Rattle.code_spec.specs.Field.{gf_add, gf_mul, gf_pow}
use Rattle.code_laws.proofs.Symbols.{HasRoots}
use Rattle.zone_spec.specs.declared.Zone.{Zone}
use Rattle.rs_encode.specs.Lanes.{IsMultiple}
use Rattle.salvage_laws.specs.Known.{known, put_in}
use Rattle.salvage.specs.declared.sieve.Weight.{Weight}
use Rattle.salvage.specs.declared.sieve.Block.{Block}

-- the product of 2 ^ p + 2 ^ m over the powers m
unfoldable pub product : List ℕ → ℕ → ℕ
product [] p = 1
product (m ∷ ms) p = gf_mul (gf_add (gf_pow 2 p) (gf_pow 2 m)) (product ms p)

-- that, times the i-th power of 2 ^ p
unfoldable pub times_power : List ℕ → ℕ → ℕ → ℕ
times_power ms i p = gf_mul (gf_pow (gf_pow 2 p) i) (product ms p)

-- what a place of this power counts in each of the sums
abbrev pub IsWeight : List ℕ → ℕ → Weight → Type 0
IsWeight ms p g = (i : ℕ) → i < 7 → slice_index g.counts i ≡ times_power ms i p

-- what no place counts
abbrev pub none : Weight
none = record { counts = 0 ∷ 0 ∷ 0 ∷ 0 ∷ 0 ∷ 0 ∷ 0 ∷ [] }

-- the sum of the symbols' sums at each place, weighed
unfoldable pub weighed : (Weight → ℕ) → List Weight → List ℕ → List ℕ → ℕ
weighed f (g ∷ gs) (x ∷ w) (y ∷ b) = gf_add (gf_mul (f g) (gf_add x y)) (weighed f gs w b)
weighed f gs w b = 0

-- the rows of a table: for each place the multiples of its counts by each low and each high half of a byte
pub record AreRows (gs : List Weight) (rows : List ℕ) : Type 0 where
  pub low : (k f : ℕ) → k < length gs → f < 16 → IsMultiple (f * 2 ^ 0) (slice_index_or gs k none).counts
      (slice_index rows (32 * k + f))
  pub high : (k f : ℕ) → k < length gs → f < 16 → IsMultiple (f * 2 ^ 4) (slice_index_or gs k none).counts
      (slice_index rows (32 * k + 16 + f))

-- the half of a byte whose multiple stands in a row
abbrev pub factor_of : ℕ → ℕ
factor_of row = if nat_lt (row % 32) 16 then row % 32 else (row % 32 - 16) * 16

-- the i-th of a block's sums
abbrev pub sum_at : ℕ → List Weight → List ℕ → List ℕ → ℕ
sum_at i gs w b = weighed (λ g. slice_index g.counts i) gs w b

-- the sum of the factors' products with the sums from the l-th on
unfoldable pub dot : List ℕ → (ℕ → ℕ) → ℕ → ℕ
dot [] s l = 0
dot (x ∷ q) s l = gf_add (gf_mul x (s l)) (dot q s (suc l))

-- factors that show that no recurrence with fewer terms than there are factors makes the sums
pub record AreFactors (q sums : List ℕ) : Type 0 where
  pub zero : (l : ℕ) → l + 1 < length q → dot q (slice_index sums) l ≡ 0
  pub some : dot q (slice_index sums) (length q - 1) ≢ 0

-- the third sum of two errors at places of these powers, where the first sum is 1 and this is the second one
unfoldable pub third : ℕ → ℕ → ℕ → ℕ
third low high second =
    gf_add (gf_mul (gf_pow 2 low) second) (gf_mul (gf_pow 2 high) (gf_add second (gf_pow 2 low)))

-- what is 0 for the sums of errors at no more than places of these two powers
unfoldable pub pair_sum : ℕ → ℕ → (ℕ → ℕ) → ℕ
pair_sum x y s = gf_add (gf_add (s 2) (gf_mul (gf_pow 2 x) (s 1)))
    (gf_mul (gf_pow 2 y) (gf_add (s 1) (gf_mul (gf_pow 2 x) (s 0))))

-- the sums of errors at places of these powers are marked, for each ratio of the second sum to the first one
abbrev pub AreMarked : List Bool → ℕ → ℕ → Type 0
AreMarked marks x y = (second : ℕ) → second < 256 → slice_index_or marks (256 * second + third x y second) false ≡ true

-- those of each pair of places with powers from low up to end
abbrev pub AreMarks : ℕ → ℕ → List Bool → Type 0
AreMarks low end marks = (x y : ℕ) → low ≤ x → x < y → y < end → AreMarked marks x y

-- a codeword with the known bytes
pub record IsKnownWord (ks : List (Option ℕ)) (r : ℕ) (c : List ℕ) : Type 0 where
  pub len : length c ≡ 12 + r
  pub roots : HasRoots r c
  pub known : put_in ks c ≡ c

abbrev pub IsOutside : ℕ → ℕ → ℕ → Type 0
IsOutside from to j = (j < from) ⊎ (to ≤ j)

-- the rows of a block are of weights. These are of powers that are few enough for the sums of codewords to be zero, and
-- among which are those of all other unknown places. Twice as many sums less one tell of so many errors at least. Where
-- these are two, each pair of the block's places is marked
pub record IsBlock (ks : List (Option ℕ)) (r : ℕ) (b : Block) : Type 0 where
  pub others : List ℕ
  pub few : length others + 2 * b.least ≤ r + 1
  pub one : 1 ≤ b.least
  pub four : b.least ≤ 4
  pub some : b.from + 1 < b.to
  pub short : b.to ≤ b.from + 16
  pub within : b.to ≤ 12 + r
  pub weights : List Weight
  pub len : length weights ≡ 16
  pub each : (k : ℕ) → b.from + k < b.to → IsWeight others (11 + r - b.from - k) (slice_index_or weights k none)
  pub rows : AreRows weights b.rows.items
  pub full : length b.rows.items ≡ 512
  pub outside : (j : ℕ) → j < 12 + r → IsOutside b.from b.to j → slice_index_or ks j None ≡ None
      → product others (11 + r - j) ≡ 0
  pub marks : b.least ≡ 2 → AreMarks (12 + r - b.to) (12 + r - b.from) b.marks.items
  pub marked : b.least ≡ 2 → length b.marks.items ≡ 65536

-- the known bytes of a sieve, and how many symbols of parity
pub record Sifted : Type 0 where
  pub known : List (Option ℕ)
  pub parity : ℕ

pub record IsSieve (ks : List (Option ℕ)) (r : ℕ) (base : List ℕ) (blocks : List Block) : Type 0 where
  pub few : r ≤ 127
  pub codeword : IsKnownWord ks r base
  pub each : All (IsBlock ks r) blocks

-- where there is a sieve, it is one of this zone's headers
abbrev pub IsSieveOf : Zone → Option Sifted → Type 0
IsSieveOf z s = MatchOption s (Unit {0}) (λ v. (v.known ≡ known z) × (v.parity ≡ z.parity))
