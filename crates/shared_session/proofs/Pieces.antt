-- The text at the end of a script, from its pieces
use Rattle.std.proofs.Common.{◌≡◌, ℕ, ◌-◌, List, [], ◌++◌, ap, ap₂, ◌∙◌, append_assoc}
use Rattle.std.specs.Prelude.{codes, decimal}
use Rattle.script_spec.specs.Texts.{newline}
use Rattle.script_spec.specs.SharedScripts.{calls_text}

joined : (old a x b y c z d w e : List ℕ) → ((((((((old ++ a) ++ x) ++ b) ++ y) ++ c) ++ z) ++ d) ++ w) ++ e
    ≡ old ++ ((((((((a ++ x) ++ b) ++ y) ++ c) ++ z) ++ d) ++ w) ++ e)
joined old a x b y c z d w e = simp append_assoc

pub open-is : (old t1 t2 t3 t4 t5 a x b y c z d w e : List ℕ) → t1 ≡ (old ++ a) ++ x → t2 ≡ (t1 ++ b) ++ y
    → t3 ≡ (t2 ++ c) ++ z → t4 ≡ (t3 ++ d) ++ w → t5 ≡ t4 ++ e
    → t5 ≡ old ++ ((((((((a ++ x) ++ b) ++ y) ++ c) ++ z) ++ d) ++ w) ++ e)
open-is old t1 t2 t3 t4 t5 a x b y c z d w e e1 e2 e3 e4 e5 =
    e5 ∙ ap (λ (t : List ℕ). t ++ e) (e4 ∙ ap (λ (t : List ℕ). (t ++ d) ++ w) (e3 ∙ ap (λ (t : List ℕ). (t ++ c) ++ z)
    (e2 ∙ ap (λ (t : List ℕ). (t ++ b) ++ y) e1))) ∙ joined old a x b y c z d w e

pub calls-are : (calls done opened start size : ℕ) (t t1 t2 t3 t4 t5 t6 : List ℕ) → t ≡ []
    → t1 ≡ t ++ codes "shared calls " ++ decimal calls
    → t2 ≡ t1 ++ codes " done " ++ decimal done → t3 ≡ t2 ++ codes " open " ++ decimal opened
    → t4 ≡ t3 ++ codes " start " ++ decimal start → t5 ≡ t4 ++ codes " size " ++ decimal size → t6 ≡ t5 ++ newline
    → done ≡ calls - opened → t6 ≡ calls_text calls opened start size
calls-are calls done opened start size t t1 t2 t3 t4 t5 t6 e e1 e2 e3 e4 e5 e6 less =
    e6 ∙ ap (λ (xs : List ℕ). xs ++ newline) (e5
    ∙ ap (λ (xs : List ℕ). xs ++ codes " size " ++ decimal size) (e4
    ∙ ap (λ (xs : List ℕ). xs ++ codes " start " ++ decimal start) (e3
    ∙ ap (λ (xs : List ℕ). xs ++ codes " open " ++ decimal opened) (e2
    ∙ ap₂ (λ (xs : List ℕ) (n : ℕ). xs ++ codes " done " ++ decimal n) (e1
    ∙ ap (λ (xs : List ℕ). xs ++ codes "shared calls " ++ decimal calls) e) less))))
