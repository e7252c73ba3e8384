-- A bare word, a key given twice, a value that is no number, and none of these: each is the word's
-- fault or none. For `word_fault`.
use Rattle.std.proofs.Common.{◌∙◌, sym, ap, not}
use Rattle.ramoops_layout.specs.Keys.{table_of}
use Rattle.grammar_spec.specs.Words.{texts}
use Rattle.ramoops_layout.proofs.WordLaws.{bare_fault, twice_fault, number_fault, no_fault}
use Rattle.ramoops_layout.proofs.words.Keys.word_fault.Goals as goal

pub returns-in_default : goal.returns-in_default
returns-in_default c = bare_fault (table_of c.args.self.now) (texts c.args.earlier.now) c.args.place c.args.word.now
    c.in_default.ensures

pub returns-then-is_some : goal.returns-then-is_some
returns-then-is_some c = twice_fault (table_of c.args.self.now) (texts c.args.earlier.now)
    c.args.place c.args.word.now c.in-Some.key.now c.in-Some.text.now c.value.result c.in-Some.ensures
    (sym c.contains.ensures ∙ c.if-not-contains.false) c.value.ensures
    (sym c.is_some.ensures ∙ c.if-is_some.true)

pub returns-then-is_none : goal.returns-then-is_none
returns-then-is_none c = number_fault (table_of c.args.self.now) (texts c.args.earlier.now)
    c.args.place c.args.word.now c.in-Some.key.now c.in-Some.text.now c.value.result c.value_number.result c.in-Some.ensures
    (sym c.contains.ensures ∙ c.if-not-contains.false) c.value.ensures
    (sym c.is_some.ensures ∙ c.if-is_some.false) c.value_number.ensures (c.is_none.ensures ∙ ap not c.if-is_none.true)

pub returns : goal.returns
returns c = no_fault (table_of c.args.self.now) (texts c.args.earlier.now) c.args.place c.args.word.now
    c.in-Some.key.now c.in-Some.text.now c.value.result c.value_number.result c.in-Some.ensures
    (sym c.contains.ensures ∙ c.if-not-contains.false) c.value.ensures (sym c.is_some.ensures ∙ c.if-is_some.false)
    c.value_number.ensures (c.is_none.ensures ∙ ap not c.if-is_none.false)
