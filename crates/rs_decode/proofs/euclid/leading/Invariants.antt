-- The symbols before `i` are zeros. For the loop of `leading`.
use Rattle.decoder_laws.specs.Polynomials.{LeadingZeros}
use Rattle.rs_decode.proofs.euclid.leading.Given as goal

abbrev pub invariant-loop-i : goal.invariant-loop-i
invariant-loop-i l = LeadingZeros l.i l.word
