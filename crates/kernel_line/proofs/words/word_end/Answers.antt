-- White space outside quotes ends the word, a quote turns it, and any other byte belongs to it.
-- For `word_end`.
use Rattle.std.proofs.Common.{◌≡◌, List, length, take, drop, ℕ, ◌==◌, cond, ◌∷◌, [], ◌+◌, false, arith, sym, ◌∙◌, subst}
use Rattle.std.proofs.Common.{Bool}
use Rattle.kernel_line.specs.Line.{words_from}
use Rattle.kernel_line.proofs.Lines.{fronted, none_read, more_read, ended_within, ended_behind, within_quotes}
use Rattle.kernel_line.proofs.Lines.{not_white, turns, stays}
use Rattle.kernel_line.proofs.words.word_end.Goals.{else-is_white-via-then-is_white+else-not-is_within}
use Rattle.kernel_line.proofs.words.word_end.Goals.{else-is_white-via-else-is_white, then-b-eq34, else-b-eq34}
use Rattle.kernel_line.proofs.words.word_end.Goals as goal

pub bytes-init : goal.bytes-init
bytes-init c = (omega arith, none_read false c.args.line.now)

pub returns-then-not-is_within-clause-words : goal.returns-then-not-is_within-clause-words
returns-then-not-is_within-clause-words c =
    let so_far : fronted (take c.bytes.end c.args.line.now) (words_from false (drop c.bytes.end c.args.line.now))
    ≡ words_from false c.args.line.now =
    subst (λ (q : Bool). fronted (take c.bytes.end c.args.line.now) (words_from q (drop c.bytes.end c.args.line.now))
    ≡ words_from false c.args.line.now) c.if-not-is_within.true c.bytes.invariant.1 in
    ended_within c.args.line.now c.bytes.end c.bytes-test.true (sym c.is_white.ensures ∙ c.if-is_white.true) so_far

pub bytes-preserved : goal.bytes-preserved
bytes-preserved c = (
  omega (arith, c.bytes-test.true),
  more_read c.args.line.now c.bytes.end c.bytes.is_within c.if-b-eq34.is_within c.bytes-test.true
      (elim c.else-is_white.branch [
        | else-is_white-via-then-is_white+else-not-is_within w ↦
            within_quotes _ c.bytes.is_within w.if-not-is_within.false
        | else-is_white-via-else-is_white w ↦
            not_white c.is_white.result _ c.bytes.is_within c.is_white.ensures w.if-is_white.false
      ])
      (elim c.if-b-eq34.branch [
        | then-b-eq34 w ↦ turns _ c.bytes.is_within c.if-b-eq34.is_within w.if-b-eq34.true w.is_within-is
        | else-b-eq34 w ↦ stays _ c.bytes.is_within c.if-b-eq34.is_within w.if-b-eq34.false w.is_within-is
      ])
      c.bytes.invariant.1,
)

pub returns-clause-words : goal.returns-clause-words
returns-clause-words c =
    ended_behind c.args.line.now c.bytes.end c.bytes.is_within c.bytes.invariant.0 c.bytes-test.false
    c.bytes.invariant.1
