-- By either order. For `word_is_its_bytes`.
use Rattle.word_laws.proofs.WordBytes.{word_of-word_bytes}
use Rattle.word_laws.proofs.word_is_its_bytes.Goals as goal

pub returns : goal.returns
returns c = word_of-word_bytes
