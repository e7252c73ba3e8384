-- A whole append, erasure or dump leaves its zone holding what the call means. By `Laws`.
use Rattle.ring_laws.proofs.Laws.{call_keeps_ring_form as law}
use Rattle.ring_laws.proofs.call_keeps_ring_form.Goals as goal

pub returns : goal.returns
returns c = law
