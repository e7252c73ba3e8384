-- What is known, place by place, of the entries that follow
use Rattle.std.specs.Prelude.{◌≡◌, ℕ, ◌≤◌, Bool, false, List, length, drop}
use Rattle.std.proofs.Common.{get_or}
use Rattle.pmsg_spec.specs.Entries.{are_entries}

-- of each place from one on, whether whole entries follow one another from it up to the end
pub record FollowFrom (bytes : List ℕ) (from : ℕ) (follow : List Bool) : Type 0 where
  pub each : (at : ℕ) → from ≤ at → at ≤ length bytes → get_or follow at false ≡ are_entries (drop at bytes)
