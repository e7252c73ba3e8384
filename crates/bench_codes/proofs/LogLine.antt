-- A line of one letter has no newline
use Rattle.std.proofs.Common.{◌≡◌, ◌≢◌, ℕ, List, subst, sym}
use Rattle.std.specs.Prelude.{replicate}
use Rattle.std.proofs.lemmas.List.Elements.{All-get_or, All-replicate}
use Rattle.kmsg_dump.specs.Kept.{IsLine}

letters : IsLine (replicate 79 120)
letters = λ k below e.
    All-get_or (λ b. b ≢ 10) (replicate 79 120) k 0 below (All-replicate (λ b. b ≢ 10) 79 120 (λ h. cc h)) e

pub letters_line : (items : List ℕ) → items ≡ replicate 79 120 → IsLine items
letters_line items e = subst IsLine (sym e) letters
