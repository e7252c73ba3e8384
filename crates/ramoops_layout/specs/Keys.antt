-- What a value of `Keys` is seen as
use Rattle.std.specs.Prelude.{map}
use Rattle.ramoops_layout.specs.declared.words.Keys.{Keys}
use Rattle.ramoops_layout.specs.declared.words.Choice.{Choice as Texts}
use Rattle.grammar_spec.specs.Words.{Choice, KeyTable}

abbrev pub choice_of : Texts → Choice
choice_of choice = record { key = choice.key.now; texts = map (λ text. text.now) choice.texts.now }

abbrev pub table_of : Keys → KeyTable
table_of keys = record {
  prefix = keys.prefix.now;
  names = map (λ name. name.now) keys.names.now;
  first = choice_of keys.first;
  second = choice_of keys.second;
}
