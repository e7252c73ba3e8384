-- An image is its zones' bytes end to end, and the bytes after them. By `Sessions`.
use Rattle.machine_laws.proofs.Sessions.{image_is_zones_and_rest as law}
use Rattle.machine_laws.proofs.image_is_zones_and_rest.Goals as goal

pub returns : goal.returns
returns c = law
