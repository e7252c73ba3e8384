-- A word of the line is read, and `--` ends them. For `kernel_words`.
use Rattle.std.proofs.Common.{ap, sym, ◌∙◌, ◌≡◌, bytes_eq, codes, true, false, Bool}
use Rattle.kernel_line.specs.Line.{underscored}
use Rattle.kernel_line.proofs.WordLoop.{none_read, ended, word_read, last_word_read}
use Rattle.kernel_line.proofs.words.kernel_words.Goals as goal

pub words-init : goal.words-init
words-init c = none_read c.new-words.result.items c.args.line.now c.new-words.ensures.items

pub words-preserved : goal.words-preserved
words-preserved c =
    let other : bytes_eq c.in_ok-word.word.items (codes "--") ≡ false =
    ap (λ w. bytes_eq w (codes "--")) (sym c.deref.ensures.value) ∙ sym c.is_end.ensures ∙ c.if-is_end.false in
    rw c.behind-rest.ensures
    (word_read c.words.words.items c.push_word.new.words.items c.args.line.now c.words.rest.now
    c.in_ok-word.word.items c.in_ok-underscored.field-0.items c.word_end-end.result c.words.invariant
    c.word_end-end.ensures.words c.if-end-rest.false c.in_ok-word.ensures other
    (c.in_ok-underscored.ensures ∙ ap underscored c.deref-in-words.ensures.value) c.in_ok-push_word.ensures)
