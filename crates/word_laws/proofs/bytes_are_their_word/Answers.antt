-- By either order. For `bytes_are_their_word`.
use Rattle.word_laws.proofs.WordBytes.{word_bytes-word_of}
use Rattle.word_laws.proofs.bytes_are_their_word.Goals as goal

pub returns : goal.returns
returns c = word_bytes-word_of
