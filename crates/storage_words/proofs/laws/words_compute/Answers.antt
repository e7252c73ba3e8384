-- The rows compute.
use Rattle.std.proofs.Common.{refl}
use Rattle.grammar_spec.specs.Numbers.{number_of}
use Rattle.grammar_spec.specs.Words.{first_fault, given, value_text}
use Rattle.psz_spec.specs.Parameters.{kib_size}
use Rattle.storage_words.proofs.laws.words_compute.Goals as goal

pub returns-clause-words : goal.returns-clause-words
unfolding kib_size given value_text number_of
returns-clause-words c = refl

pub returns-clause-no_word : goal.returns-clause-no_word
unfolding kib_size given value_text number_of
returns-clause-no_word c = refl

pub returns-clause-largest : goal.returns-clause-largest
unfolding kib_size
returns-clause-largest c = refl

pub returns-clause-too_large : goal.returns-clause-too_large
unfolding kib_size
returns-clause-too_large c = refl

pub returns-clause-foreign : goal.returns-clause-foreign
unfolding first_fault number_of
returns-clause-foreign c = refl

pub returns-clause-twice : goal.returns-clause-twice
unfolding first_fault number_of
returns-clause-twice c = refl

pub returns-clause-bare : goal.returns-clause-bare
unfolding first_fault number_of
returns-clause-bare c = refl
