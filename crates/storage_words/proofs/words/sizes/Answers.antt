-- Each size is that of its key, or its default. For `sizes`.
use Rattle.storage_words.proofs.words.sizes.Goals as goal

pub returns : goal.returns
returns c = cc
