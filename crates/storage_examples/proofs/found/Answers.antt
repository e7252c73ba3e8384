-- The row computes. By `Worked`.
use Rattle.storage_examples.proofs.Worked.{odd_dump}
use Rattle.storage_examples.proofs.found.Goals as goal

pub returns : goal.returns
returns c = odd_dump
