-- Two rows of Euclid's algorithm, as the decoder keeps them in place
use Rattle.std.specs.Prelude.{ℕ, ◌<◌, ◌≤◌, ◌+◌, ◌-◌, ◌≢◌, List, length, slice_index}
use Rattle.decoder_laws.specs.Series.{Bytes}
use Rattle.decoder_laws.specs.Polynomials.{poly, LeadingZeros}
use Rattle.decoder_laws.specs.Euclid.{IsEuclid}

-- two rows that stand one after the other, each with 15 zeros in front: v and r, whose symbols begin at b, after v' and
-- r', whose symbols begin at a
pub record IsRows (t : ℕ) (S : ℕ → ℕ) (v v' r r' : List ℕ) (a b : ℕ) : Type 0 where
  pub euclid : IsEuclid (t + t) S (poly v) (poly v') (poly r) (poly r')
  pub order : a < b
  pub padded : 15 ≤ a
  pub above : a ≤ t + 15
  pub within : b ≤ length r
  pub leading : b < length r → slice_index r b ≢ 0
  pub zeros : LeadingZeros b r
  pub old_zeros : LeadingZeros a r'
  pub room : LeadingZeros (t + 30 - a) v
  pub old_room : LeadingZeros (t + 30 - a) v'
  pub bytes : Bytes (poly v)
  pub old_bytes : Bytes (poly v')
  pub rest_bytes : Bytes (poly r)
  pub old_rest_bytes : Bytes (poly r')
