-- A word that gives the key has the value, any other is passed, and at the end there is none. For
-- `value`.
use Rattle.std.proofs.Common.{◌≡◌, ◌∙◌, ◌==◌, false, sym}
use Rattle.std.specs.List.{list_any}
use Rattle.ramoops_layout.specs.Keys.{table_of}
use Rattle.grammar_spec.specs.Words.{IsSplit}
use Rattle.ramoops_layout.proofs.WordLaws.{value_here, value_past, value_none, value_end}
use Rattle.ramoops_layout.proofs.words.Keys.value.Goals as goal
use Rattle.ramoops_layout.proofs.words.Keys.value.Goals.{in-Some+else-eq, in_default}

pub returns-then-eq : goal.returns-then-eq
returns-then-eq c =
    let table = table_of c.args.self.now in
    let parts : IsSplit table c.deref.result.now c.in-Some.own.now c.in-Some.value.now = c.in-Some.ensures in
    value_here table c.args.words.now c.loop-word.word-index c.word-item.result c.args.key.now c.in-Some.own.now
    c.in-Some.value.now c.loop-word-test.true c.word-item.is (rw c.deref.ensures at parts)
    (sym c.eq.ensures ∙ c.if-eq.true) ∙ sym c.loop-word.invariant

pub loop-word-preserved : goal.loop-word-preserved
loop-word-preserved c = c.loop-word.invariant ∙ elim c.match-split.branch [
  | in-Some+else-eq w ↦
      let table = table_of c.args.self.now in
      let parts : IsSplit table c.deref.result.now w.in-Some.own.now w.in-Some.value.now = w.in-Some.ensures in
      value_past table c.args.words.now c.loop-word.word-index c.word-item.result c.args.key.now w.in-Some.own.now
      w.in-Some.value.now c.loop-word-test.true c.word-item.is (rw c.deref.ensures at parts)
      (sym w.eq.ensures ∙ w.if-eq.false)
  | in_default w ↦
      let bare : list_any (λ d. d == 61) c.deref.result.now ≡ false = w.in_default.ensures in
      value_none (table_of c.args.self.now) c.args.words.now c.loop-word.word-index c.word-item.result c.args.key.now
      c.loop-word-test.true c.word-item.is (rw c.deref.ensures at bare)
]

pub returns : goal.returns
returns c = value_end (table_of c.args.self.now) c.args.words.now c.loop-word.word-index c.args.key.now
    c.loop-word-test.false ∙ sym c.loop-word.invariant
