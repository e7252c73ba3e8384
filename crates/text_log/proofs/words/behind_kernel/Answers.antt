-- The line goes on behind `kernel:`, or behind the next word; without one among five it is whole. For `behind_kernel`.
use Rattle.std.proofs.Common.{◌≡◌, ◌<◌, ◌-◌, sym, ap, ◌∙◌, arith}
use Rattle.text_log_spec.specs.Words.{behind_kernel}
use Rattle.text_log.proofs.Pieces.{kernel_here, kernel_later, kernel_nowhere}
use Rattle.text_log.proofs.words.behind_kernel.Goals as goal

pub returns-then-starts_with : goal.returns-then-starts_with
returns-then-starts_with c =
    let more : 0 < c.words.left = omega arith in
    c.tail.ensures
    ∙ sym (c.words.invariant
    ∙ kernel_here c.words.left c.args.text.now c.words.rest.now more
    (sym c.starts_with.ensures ∙ c.if-starts_with.true))

pub words-preserved : goal.words-preserved
words-preserved c =
    let more : 0 < c.words.left = omega arith in
    c.words.invariant
    ∙ kernel_later c.words.left c.args.text.now c.words.rest.now more
    (sym c.starts_with.ensures ∙ c.if-starts_with.false)
    ∙ ap (behind_kernel (c.words.left - 1) c.args.text.now) (sym c.next_word-rest.ensures)

pub returns : goal.returns
returns c =
    let none : c.words.left ≡ 0 = omega arith in
    sym (c.words.invariant ∙ ap (λ n. behind_kernel n c.args.text.now c.words.rest.now) none
    ∙ kernel_nowhere c.args.text.now c.words.rest.now)
