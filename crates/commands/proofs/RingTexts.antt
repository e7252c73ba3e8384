-- The line of a ring, from its pieces
use Rattle.std.proofs.Common.{◌≡◌, ℕ, List, ◌++◌, ap, ◌∙◌, append_assoc}
use Rattle.std.specs.Prelude.{codes, decimal}
use Rattle.grammar_spec.specs.Printed.{zone_text}
use Rattle.salvage_spec.specs.declared.FoundRing.{FoundRing}
use Rattle.script_spec.specs.Texts.{newline}
use Rattle.command_spec.specs.Texts.{ring_line}

joined : (old a n b z c s d t e x f : List ℕ)
    → (((((((((((old ++ a) ++ n) ++ b) ++ z) ++ c) ++ s) ++ d) ++ t) ++ e) ++ x) ++ f)
    ≡ old ++ (((((((((((a ++ n) ++ b) ++ z) ++ c) ++ s) ++ d) ++ t) ++ e) ++ x) ++ f))
joined old a n b z c s d t e x f = simp append_assoc

pub ring-is : (ring : FoundRing) (at s z x : ℕ) (old t1 t2 t3 t4 t5 t6 t7 : List ℕ)
    → t1 ≡ old ++ codes "ring at " ++ decimal at → t2 ≡ t1 ++ codes " shape " → t3 ≡ t2 ++ zone_text ring.zone
    → t4 ≡ t3 ++ codes " start " ++ decimal s → t5 ≡ t4 ++ codes " size " ++ decimal z
    → t6 ≡ t5 ++ codes " corrected " ++ decimal x → t7 ≡ t6 ++ newline
    → at ≡ ring.at → s ≡ ring.words.start → z ≡ ring.words.size → x ≡ ring.corrected → t7 ≡ old ++ ring_line ring
ring-is ring at s z x old t1 t2 t3 t4 t5 t6 t7 e1 e2 e3 e4 e5 e6 e7 ea es ez ex =
    let all = e7 ∙ ap (λ (t : List ℕ). t ++ newline) (e6
    ∙ ap (λ (t : List ℕ). t ++ codes " corrected " ++ decimal x) (e5
    ∙ ap (λ (t : List ℕ). t ++ codes " size " ++ decimal z) (e4
    ∙ ap (λ (t : List ℕ). t ++ codes " start " ++ decimal s) (e3
    ∙ ap (λ (t : List ℕ). t ++ zone_text ring.zone) (e2
    ∙ ap (λ (t : List ℕ). t ++ codes " shape ") e1)))))
    ∙ joined old (codes "ring at ") (decimal at) (codes " shape ") (zone_text ring.zone) (codes " start ") (decimal s)
    (codes " size ") (decimal z) (codes " corrected ") (decimal x) newline in
    rw (← ea, ← es, ← ez, ← ex) all
