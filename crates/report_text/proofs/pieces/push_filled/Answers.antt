-- The blanks and then the digits
use Rattle.std.proofs.Common.{◌≡◌, ◌++◌, ◌-◌, ◌∙◌, List, ℕ, length, take, ap, ap₂}
use Rattle.std.specs.Prelude.{min, decimal, codes}
use Rattle.report_spec.specs.Visible.{visible}
use Rattle.report_text.proofs.VisibleBytes.{written-twice}
use Rattle.report_text.proofs.pieces.push_filled.Goals as goal

pub returns-clause-bytes : goal.returns-clause-bytes
returns-clause-bytes c =
    let columns = c.args.columns in
    let digits : c.as_bytes-digits.result.now ≡ decimal c.args.n =
    c.as_bytes-digits.ensures.value ∙ c.format.ensures.text in
    let blanks : c.as_bytes-blanks.result.now ≡ codes "                    " = c.as_bytes-blanks.ensures.value in
    let wanted : c.min-wanted.result ≡ min (columns - length (decimal c.args.n)) 20 =
    c.min-wanted.ensures ∙ ap₂ (λ (a b : ℕ). min a b) (c.saturating_sub.ensures
    ∙ ap (λ (xs : List ℕ). columns - length xs) digits) (ap length blanks) in
    written-twice c.args.out.now.items c.push_visible.new.out.items c.push_visible-2.new.out.items
    (take c.min-wanted.result c.as_bytes-blanks.result.now) c.as_bytes-digits.result.now
    c.in_ok-push_visible.ensures.bytes c.in_ok-push_visible-2.ensures.bytes
    ∙ ap₂ (λ (xs ys : List ℕ). c.args.out.now.items ++ visible (xs ++ ys))
    (ap₂ (λ (k : ℕ) (xs : List ℕ). take k xs) wanted blanks) digits
