-- Word, tail and newline, put in turn, are the line's text. For `put_line`.
use Rattle.std.proofs.Common.{◌≡◌, List, ℕ, [], ◌∷◌, ap, ◌∙◌, ◌++◌, append_assoc}
use Rattle.script.specs.Writing.{word_text, tail_text}
use Rattle.script.proofs.LineFields.{word_and_tail}
use Rattle.script.proofs.printing.put_line.Goals as goal

regroup : (out a b c : List ℕ) → out ++ a ++ b ++ c ≡ out ++ (a ++ b ++ c)
regroup out a b c = ap (λ x. x ++ c) (append_assoc out a b) ∙ append_assoc out (a ++ b) c

pub returns : goal.returns
returns c =
    c.in_ok-push.ensures.items ∙ ap (λ x. x ++ 10 ∷ []) (c.in_ok-put_tail.ensures
    ∙ ap (λ x. x ++ tail_text c.args.line.now) (c.in_ok-extend_from_slice.ensures.items
    ∙ ap (λ x. c.args.out.now.items ++ x) c.word.ensures))
    ∙ regroup c.args.out.now.items (word_text c.args.line.now) (tail_text c.args.line.now) (10 ∷ [])
    ∙ ap (λ x. c.args.out.now.items ++ (x ++ 10 ∷ [])) (word_and_tail c.args.line.now)
