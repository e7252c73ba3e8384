-- A landmark here ends it, a word passes it on, and anything else has none. For `landmark_end`.
use Rattle.std.proofs.Common.{◌≡◌, ◌<◌, ◌+◌, ◌-◌, length, drop, length-drop, sym, ap, ◌∙◌, arith}
use Rattle.death_spec.specs.Fronts.{landmark_len, past_word, landmark_end}
use Rattle.death.proofs.Pieces.{end_here, end_nowhere, end_next, end_done}
use Rattle.death.proofs.prefixes.landmark_end.Goals as goal

pub returns-then-len-gt0-clause-end : goal.returns-then-len-gt0-clause-end
returns-then-len-gt0-clause-end c =
    let len = c.landmark_len-len.ensures.len ∙ ap (landmark_len c.args.landmark) c.tail-rest.ensures in
    ap (λ k. c.words.at + k) len
    ∙ sym (c.words.invariant.1
    ∙ end_here c.args.landmark c.words.left c.args.text.now c.words.at (omega (arith, c.words-test.true))
    (omega (arith, len, c.if-len-gt0.true)))

pub returns-then-word-eq0-clause-end : goal.returns-then-word-eq0-clause-end
returns-then-word-eq0-clause-end c =
    let len = c.landmark_len-len.ensures.len ∙ ap (landmark_len c.args.landmark) c.tail-rest.ensures in
    let word = c.past_word-word.ensures.past ∙ ap past_word c.tail-rest.ensures in
    sym (c.words.invariant.1
    ∙ end_nowhere c.args.landmark c.words.left c.args.text.now c.words.at (omega (arith, c.words-test.true))
    (omega (arith, len, c.if-len-gt0.false)) (sym word ∙ c.if-word-eq0.true))

pub words-preserved : goal.words-preserved
words-preserved c =
    let len = c.landmark_len-len.ensures.len ∙ ap (landmark_len c.args.landmark) c.tail-rest.ensures in
    let word = c.past_word-word.ensures.past ∙ ap past_word c.tail-rest.ensures in (
      omega (
        arith,
        c.words.invariant.0,
        c.past_word-word.ensures.within,
        ap length c.tail-rest.ensures,
        length-drop c.words.at c.args.text.now,
      ),
      c.words.invariant.1
          ∙ end_next c.args.landmark c.words.left c.args.text.now c.words.at (omega (arith, c.words-test.true))
          (omega (arith, len, c.if-len-gt0.false)) (λ e. c.if-word-eq0.false (word ∙ e))
          ∙ ap (λ k. landmark_end c.args.landmark (c.words.left - 1) c.args.text.now (c.words.at + k)) (sym word),
    )

pub returns-clause-end : goal.returns-clause-end
returns-clause-end c =
    let none : c.words.left ≡ 0 = omega (arith, c.words-test.false) in
    sym (c.words.invariant.1
    ∙ ap (λ n. landmark_end c.args.landmark n c.args.text.now c.words.at) none
    ∙ end_done c.args.landmark c.args.text.now c.words.at)
