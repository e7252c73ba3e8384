-- A word that gives the key has its number, and without one there is none. For `given`.
use Rattle.std.proofs.Common.{◌∙◌}
use Rattle.ramoops_layout.specs.Keys.{table_of}
use Rattle.grammar_spec.specs.Words.{texts}
use Rattle.ramoops_layout.proofs.WordLaws.{given_some, given_none}
use Rattle.ramoops_layout.proofs.words.Keys.given.Goals as goal

pub returns-in-Some : goal.returns-in-Some
returns-in-Some c = c.value_number.ensures ∙ given_some (table_of c.args.self.now) (texts c.args.words.now)
    c.args.key.now c.value.result c.in-Some.text c.value.ensures c.in-Some.is

pub returns-in-None : goal.returns-in-None
returns-in-None c = given_none (table_of c.args.self.now) (texts c.args.words.now) c.args.key.now c.value.result
    c.value.ensures c.in-None.is
