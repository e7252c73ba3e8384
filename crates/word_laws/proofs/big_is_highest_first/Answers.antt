-- By the bytes. For `big_is_highest_first`.
use Rattle.std.proofs.Common.{refl}
use Rattle.zone_spec.specs.WordBytes.{turned}
use Rattle.word_laws.proofs.WordBytes.{big_bytes, big_word}
use Rattle.word_laws.proofs.big_is_highest_first.Goals as goal

pub returns : goal.returns
returns c = record {
  stored = big_bytes;
  read = λ bytes four each. big_word bytes each;
  signature = refl;
  little = refl;
}
