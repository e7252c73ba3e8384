-- A count of corrected bytes that is not 0
use Rattle.std.proofs.Common.{◌≡◌, ℕ, ◌==◌, Bool, false, if◌then◌else◌, List, [], ◌∷◌, ◌++◌, codes, ap, sym, ◌∙◌}
use Rattle.report_html.specs.Pieces.{Part, Words, Count}
use Rattle.report_html.specs.Pictures.{count_parts}

pub count-added : (n k : ℕ) (old new : List Part) → (n == 0) ≡ false → k ≡ n
    → new ≡ old ++ Words (codes ", bytes corrected in each: ") ∷ Count k ∷ [] → new ≡ old ++ count_parts n
count-added n k old new some same added =
    let shown : ℕ → List Part = λ m. Words (codes ", bytes corrected in each: ") ∷ Count m ∷ [] in
    added ∙ ap (λ (m : ℕ). old ++ shown m) same
    ∙ ap (λ (t : Bool). old ++ (if t then [] else shown n)) (sym some)
