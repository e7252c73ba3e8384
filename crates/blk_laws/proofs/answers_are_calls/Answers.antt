-- What a loading, an append, a dump and an erasure answer and leave is what a session's call
-- leaves, with some outcome. By `Ends`.
use Rattle.blk_laws.proofs.Ends.{answers-are-calls}
use Rattle.blk_laws.proofs.answers_are_calls.Goals as goal

pub returns : goal.returns
returns c = answers-are-calls
