-- Where at most t places are damaged, Euclid's algorithm stops at their locator and evaluator, up
-- to a factor. By `Damage`.
use Rattle.decoder_laws.proofs.Damage.{found_of}
use Rattle.decoder_laws.proofs.euclid_finds_locator.Goals as goal

pub returns : goal.returns
returns c = found_of
