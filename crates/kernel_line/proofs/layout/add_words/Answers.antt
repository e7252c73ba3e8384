-- A word of the layout is added, a wrong one is the fault, and any other is passed. For `add_words`.
use Rattle.std.proofs.Common.{rules, subst, ap, ◌∙◌, take, ℕ, List}
use Rattle.std.specs.List.{filter}
use Rattle.grammar_spec.specs.Words.{texts}
use Rattle.kernel_line.specs.Line.{is_of, IsWordFault, IsFaultAmong, StandsFirst}
use Rattle.kernel_line.proofs.Among.{one_refused}
use Rattle.kernel_line.proofs.layout.add_words.Goals as goal

pub returns-in_err-add_word-clause-err : goal.returns-in_err-add_word-clause-err
returns-in_err-add_word-clause-err c =
    let fault : IsWordFault c.args.which c.word-item.result c.in_err-add_word.field-0.0 =
    subst (λ (w : List ℕ). IsWordFault c.args.which w c.in_err-add_word.field-0.0) c.as_slice.ensures
    c.in_err-add_word.ensures.err in
    let among : IsFaultAmong c.args.which c.args.read.now c.in_err-add_word.field-0.0 =
    one_refused c.args.which c.loop-word.words.items (texts c.args.words.now.items) c.args.read.now
    c.loop-word.word-index c.word-item.result c.in_err-add_word.field-0.0 c.loop-word-test.true c.word-item.is
    c.loop-word.invariant fault in
    search rules

pub returns-in_err-add_word-clause-kept : goal.returns-in_err-add_word-clause-kept
returns-in_err-add_word-clause-kept c =
    let kept : StandsFirst (texts c.args.words.now.items) (texts c.add_word.new.words.items) = record {
      more = filter (is_of c.args.which) (take c.loop-word.word-index c.args.read.now);
      is = ap texts c.in_err-add_word.ensures.kept ∙ c.loop-word.invariant;
    } in
    search rules
