-- An empty text is no size. For `size`.
use Rattle.std.proofs.Common.{◌≡◌, ℕ, ◌+◌, ◌==◌, true, List, [], ◌∷◌, length, Option, None, refl, sym, ◌∙◌, arith}
use Rattle.std.proofs.lemmas.Bool.{eqb-true}
use Rattle.kernel_line.specs.Region.{long_number, size_in}
use Rattle.kernel_line.proofs.region.size.Goals as goal

no_size : (text : List ℕ) → length text ≡ 0 → None ≡ size_in text
unfolding size_in long_number
no_size [] e = refl
no_size (b ∷ bs) e = absurd (omega (arith, e))

pub returns-then-is_empty : goal.returns-then-is_empty
returns-then-is_empty c =
    no_size c.args.text.now (eqb-true (length c.args.text.now) 0 (sym c.is_empty.ensures ∙ c.if-is_empty.true))
