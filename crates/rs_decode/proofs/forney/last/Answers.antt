-- The last symbol is the polynomial's constant. For `last`.
use Rattle.decoder_laws.proofs.Polynomials.{poly-last}
use Rattle.rs_decode.proofs.forney.last.Goals as goal

pub returns : goal.returns
returns c = poly-last c.args.word.now c.requires
