-- The powers at whose reciprocals the found locator is zero are those of the damaged places. By
-- `Chien`.
use Rattle.decoder_laws.proofs.Chien.{roots_of_places, found_roots}
use Rattle.decoder_laws.proofs.chien_finds_places.Goals as goal

pub returns : goal.returns
returns c = λ D v r k h. roots_of_places v D (found_roots D v r k h)
