-- A list with zeros at all its places is a run of zeros. By `Elements`.
use Rattle.list_laws.proofs.Elements.{replicate_from_places}
use Rattle.list_laws.proofs.zeros_are_a_run.Goals as goal

pub returns : goal.returns
returns c = λ xs h. replicate_from_places 0 xs h
