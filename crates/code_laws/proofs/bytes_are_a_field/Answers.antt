-- The bytes are a field. By `Ring`.
use Rattle.code_laws.proofs.Ring.{is_field as law}
use Rattle.code_laws.proofs.bytes_are_a_field.Goals as goal

pub returns : goal.returns
returns c = law
