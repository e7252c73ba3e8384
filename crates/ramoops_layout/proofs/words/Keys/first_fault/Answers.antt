-- A word at fault decides, and one without fault gives a key of its own, so the words are few. For
-- `first_fault`.
use Rattle.std.proofs.Common.{◌∙◌, ap, sym, take, List, ℕ, arith}
use Rattle.ramoops_layout.specs.Keys.{table_of}
use Rattle.grammar_spec.specs.Words.{word_fault, texts}
use Rattle.ramoops_layout.proofs.DistinctKeys.{apart, few, fault_step, found_fault, faultless}
use Rattle.ramoops_layout.proofs.words.Keys.first_fault.Goals as goal

pub overflow_cast-i : goal.overflow_cast-i
overflow_cast-i c = omega (
  arith,
  few c.args.self.now (texts (take c.loop-i.i c.args.words.now)),
  c.loop-i.invariant.apart,
)

pub returns-in-Some : goal.returns-in-Some
returns-in-Some c =
    let table = table_of c.args.self.now in
    let words = c.args.words.now in
    let is = c.word_fault.ensures
    ∙ ap (λ (t : List ℕ). word_fault table (texts (take c.loop-i.i words)) c.loop-i.i t) c.deref.ensures in
    found_fault table words c.in-Some.fault c.word_fault.result _ c.in-Some.is
    (fault_step table words c.loop-i.i c.index-words-i.result c.word_fault.result c.loop-i-test.true
    c.index-words-i.is is c.loop-i.invariant.faults)

pub loop-i-preserved : goal.loop-i-preserved
loop-i-preserved c =
    let table = table_of c.args.self.now in
    let words = c.args.words.now in
    let is = c.word_fault.ensures
    ∙ ap (λ (t : List ℕ). word_fault table (texts (take c.loop-i.i words)) c.loop-i.i t) c.deref.ensures in
    record {
      faults = fault_step table words c.loop-i.i c.index-words-i.result _ c.loop-i-test.true c.index-words-i.is
          (sym c.in_default.is ∙ is) c.loop-i.invariant.faults;
      apart = apart table words c.loop-i.i c.loop-i.i c.index-words-i.result c.loop-i-test.true c.index-words-i.is
          (sym c.in_default.is ∙ is) c.loop-i.invariant.apart;
    }

pub returns : goal.returns
returns c = faultless (table_of c.args.self.now) c.args.words.now c.loop-i.i c.loop-i-test.false
    c.loop-i.invariant.faults
