-- The symbol of a damaged place times its denominator is the evaluator's value at the place's
-- reciprocal. By `Forney`.
use Rattle.decoder_laws.proofs.Chien.{at_power-below}
use Rattle.decoder_laws.proofs.Forney.{found_mask}
use Rattle.decoder_laws.proofs.forney_finds_symbols.Goals as goal

pub returns : goal.returns
returns c = λ D v r k j h l n. found_mask D v r k j h l n (at_power-below D j h.symbols)
