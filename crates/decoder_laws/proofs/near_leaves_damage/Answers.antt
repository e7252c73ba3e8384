-- A codeword that differs in at most t places leaves damage with the word's syndromes. By
-- `Damage`.
use Rattle.decoder_laws.proofs.Damage.{damage_of}
use Rattle.decoder_laws.proofs.near_leaves_damage.Goals as goal

pub returns : goal.returns
returns c = damage_of
