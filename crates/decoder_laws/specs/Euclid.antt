-- What Euclid's algorithm keeps, one step of it, and where it stops
use Rattle.std.specs.Prelude.{ℕ, suc, ◌≡◌, ◌≤◌, ◌+◌, ◌<◌, ◌≢◌, List, length, slice_index}
use Rattle.decoder_laws.specs.Series.{plus, times, shift, one, Below, Agree, Bytes}
use Rattle.decoder_laws.specs.Polynomials.{poly}

-- two solutions v, r and v', r' of the key equation modulo x ^ n, with v r' + v' r = x ^ n
pub record IsEuclid (n : ℕ) (S v v' r r' : ℕ → ℕ) : Type 0 where
  pub solves : Agree n (times v S) r
  pub solved : Agree n (times v' S) r'
  pub determinant : plus (times v r') (times v' r) ≡ shift n one

-- where the algorithm stops: v has degree at most d, and r' at most 2 t - d
pub record IsStop (t d w : ℕ) (v v' r r' : ℕ → ℕ) : Type 0 where
  pub degrees : d + w ≡ t + t
  pub within : d ≤ t
  pub v_low : Below (suc d) v
  pub v'_low : Below (suc t) v'
  pub r_low : Below t r
  pub r'_low : Below (suc w) r'
  pub bytes : Bytes v
  pub r_bytes : Bytes r

-- one quotient takes both columns on
pub record IsStep (r v r' v' r'' v'' : ℕ → ℕ) : Type 0 where
  pub quotient : ℕ → ℕ
  pub rest : r'' ≡ plus r (times quotient r')
  pub factor : v'' ≡ plus v (times quotient v')

-- the pair of words that the algorithm answers: its factor has degree d, and its rest no leading zeros
pub record IsSolution (t : ℕ) (S : ℕ → ℕ) (v r : List ℕ) : Type 0 where
  pub v' : ℕ → ℕ
  pub r' : ℕ → ℕ
  pub w : ℕ
  pub d : ℕ
  pub degree : length v ≡ d + 1
  pub leading : 0 < length r → slice_index r 0 ≢ 0
  pub euclid : IsEuclid (t + t) S (poly v) v' (poly r) r'
  pub stop : IsStop t d w (poly v) v' (poly r) r'
