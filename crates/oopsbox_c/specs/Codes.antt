-- What the calls on one block answer
use Rattle.std.specs.Prelude.{◌≡◌, ℕ, ◌+◌, ◌/◌, ◌≤◌, ◌<◌, Bool, ◌&&◌, not, if◌then◌else◌, nat_le, List, length}
use Rattle.std.specs.Prelude.{slice_get, Option, Some, None}
use Rattle.rs_decode.specs.declared.Fix.{Fix}
use Rattle.rs_decode.specs.declared.Decoded.{Decoded}
use Rattle.rs_decode.specs.declared.Decoded.TheVariants.{Clean, Fixed, Bad as BadWord}
use Rattle.oopsbox_c.specs.declared.ends.End.{End}
use Rattle.oopsbox_c.specs.declared.ends.End.TheVariants.{Done, Room, Argument, Bad}

-- so many message and parity bytes make a block
abbrev pub is_block : ℕ → ℕ → Bool
is_block message parity = nat_le 1 message && nat_le 1 parity && nat_le parity 127 && nat_le (message + parity) 255

abbrev pub encode_end : ℕ → ℕ → End
encode_end message parity = if is_block message parity then Done else Argument

-- a block, with room for as many places as can be corrected
abbrev pub has_answer : ℕ → ℕ → ℕ → Bool
has_answer message parity room = is_block message parity && nat_le (parity / 2) room

-- a word that was read
abbrev pub end_of : Decoded → End
end_of Clean = Done
end_of (Fixed n) = Done
end_of BadWord = Bad

-- there is a nearest codeword or none
abbrev pub near_end : Option (List ℕ) → End
near_end (Some c) = Done
near_end None = Bad

abbrev pub decode_end : ℕ → ℕ → ℕ → Option (List ℕ) → End
decode_end message parity room near =
    if not (is_block message parity) then Argument
    else if not (nat_le (parity / 2) room) then Room
    else near_end near

-- the first n places are those of the fixes, and the others are as they were
pub record PlacesTo (n : ℕ) (fixes : List Fix) (old new : List ℕ) : Type 0 where
  pub first : (k : ℕ) (fix : Fix) → k < n → slice_get fixes k ≡ Some fix → slice_get new k ≡ Some fix.place
  pub rest : (k : ℕ) → n ≤ k → slice_get new k ≡ slice_get old k

abbrev pub PlacesAre : List Fix → List ℕ → List ℕ → Type 0
PlacesAre fixes old new = PlacesTo (length fixes) fixes old new
