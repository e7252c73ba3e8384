-- The bytes of the lane are its digits, the highest first. For `value_bytes`.
use Rattle.std.proofs.Common.{◌-◌, ℕ, List, get_or, ap, ◌∙◌, arith}
use Rattle.rs_encode.proofs.Lanes.{bytes_are_digits}
use Rattle.rs_decode.proofs.lanes.value_bytes.Goals as goal

pub returns-clause-values : goal.returns-clause-values
returns-clause-values c = λ k l. ap (λ (u : List ℕ). get_or u k 0) c.to_be_bytes.ensures
    ∙ bytes_are_digits 16 c.value_lane.result k (15 - k) (omega arith)
    ∙ c.value_lane.ensures k (15 - k) (omega arith)
