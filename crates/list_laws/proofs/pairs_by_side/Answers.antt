-- A pair at a place of two lists side by side holds the element of each list there. By `Gets`.
use Rattle.list_laws.proofs.Gets.{slice_get-zip_parts}
use Rattle.list_laws.proofs.pairs_by_side.Goals as goal

pub returns : goal.returns
returns c = λ xs ys i p e. slice_get-zip_parts xs ys i p e
