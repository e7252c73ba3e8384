-- The text of a move, from what is told of each record
use Rattle.std.proofs.Common.{◌≡◌, ℕ, List, [], ◌∷◌, ◌++◌, length, map, refl, sym, ap, ap₂, ◌∙◌, append_assoc}
use Rattle.std.specs.Prelude.{flat_map, codes, decimal, if◌then◌else◌}
use Rattle.std.proofs.lemmas.List.{length-map}
use Rattle.zone_spec.specs.declared.Zone.{Zone}
use Rattle.zone_spec.specs.Names.{name_text}
use Rattle.zone_spec.specs.Records.{Saved, Listed, listed_of}
use Rattle.machine_spec.specs.Moved.{fits}
use Rattle.pstore_records.specs.declared.moving.Move.{Move}
use Rattle.pstore_records.specs.Counts.{corrected_in, bad_in}
use Rattle.pstore_records.specs.Moves.{move_of}
use Rattle.script_spec.specs.Texts.{newline, move_line, move_text}
use Rattle.ram_session.specs.Entries.{told_text}

line-is : (layout : List Zone) (zones : List Saved) (r : Listed)
    → told_text (move_of layout zones r) ≡ move_line (fits layout zones r.name) zones r
line-is layout zones r =
    let head : List ℕ = if fits layout zones r.name then codes "moved " else codes "left " in
    let c : List ℕ = codes " corrected " ++ decimal (corrected_in r.name zones) in
    ap (λ (xs : List ℕ). xs ++ codes " corrected " ++ decimal (corrected_in r.name zones)
    ++ codes " bad " ++ decimal (bad_in r.name zones) ++ newline)
    (sym (append_assoc head (name_text r.name ++ codes " ") (decimal (length r.content)))
    ∙ ap (λ (xs : List ℕ). xs ++ decimal (length r.content)) (sym (append_assoc head (name_text r.name) (codes " "))))

pub moves-are : (layout : List Zone) (zones : List Saved) (rs : List Listed)
    → flat_map told_text (map (move_of layout zones) rs)
    ≡ flat_map (λ r. move_line (fits layout zones r.name) zones r) rs
moves-are layout zones [] = refl
moves-are layout zones (r ∷ rs) = ap₂ (λ (xs ys : List ℕ). xs ++ ys) (line-is layout zones r)
    (moves-are layout zones rs)

pub move-is : (layout : List Zone) (zones : List Saved) (from to n : ℕ) (moves : List Move)
    (t t1 t2 t3 t4 t5 : List ℕ) → t ≡ [] → t1 ≡ t ++ codes "move " ++ decimal from
    → t2 ≡ t1 ++ codes " to " ++ decimal to → t3 ≡ t2 ++ codes " records " ++ decimal n → t4 ≡ t3 ++ newline
    → t5 ≡ t4 ++ flat_map told_text moves → moves ≡ map (move_of layout zones) (listed_of zones) → n ≡ length moves
    → t5 ≡ move_text from to layout zones
move-is layout zones from to n moves t t1 t2 t3 t4 t5 e e1 e2 e3 e4 e5 made count =
    let so_far : t4 ≡ codes "move " ++ decimal from ++ codes " to " ++ decimal to ++ codes " records " ++ decimal n
    ++ newline =
    e4 ∙ ap (λ (xs : List ℕ). xs ++ newline) (e3
    ∙ ap (λ (xs : List ℕ). xs ++ codes " records " ++ decimal n) (e2
    ∙ ap (λ (xs : List ℕ). xs ++ codes " to " ++ decimal to) (e1
    ∙ ap (λ (xs : List ℕ). xs ++ codes "move " ++ decimal from) e))) in
    let lines : flat_map told_text moves ≡ flat_map (λ r. move_line (fits layout zones r.name) zones r)
    (listed_of zones) = ap (flat_map told_text) made ∙ moves-are layout zones (listed_of zones) in
    let all : n ≡ length (listed_of zones) =
    count ∙ ap length made ∙ length-map (listed_of zones) (move_of layout zones) in
    e5 ∙ ap₂ (λ (xs ys : List ℕ). xs ++ ys) so_far lines
    ∙ ap (λ (k : ℕ). codes "move " ++ decimal from ++ codes " to " ++ decimal to ++ codes " records " ++ decimal k
    ++ newline ++ flat_map (λ r. move_line (fits layout zones r.name) zones r) (listed_of zones)) all

joined : (old f nm a n b x d y e : List ℕ) → ((((((((old ++ f) ++ nm) ++ a) ++ n) ++ b) ++ x) ++ d) ++ y) ++ e
    ≡ old ++ ((((((f ++ ((nm ++ a) ++ n)) ++ b) ++ x) ++ d) ++ y) ++ e)
joined old f nm a n b x d y e = simp append_assoc

pub told-is : (old t1 t2 t3 t4 t5 f nm a n b x d y e : List ℕ) → t1 ≡ old ++ f → t2 ≡ ((t1 ++ nm) ++ a) ++ n
    → t3 ≡ (t2 ++ b) ++ x → t4 ≡ (t3 ++ d) ++ y → t5 ≡ t4 ++ e
    → t5 ≡ old ++ ((((((f ++ ((nm ++ a) ++ n)) ++ b) ++ x) ++ d) ++ y) ++ e)
told-is old t1 t2 t3 t4 t5 f nm a n b x d y e e1 e2 e3 e4 e5 =
    e5 ∙ ap (λ (t : List ℕ). t ++ e) (e4 ∙ ap (λ (t : List ℕ). (t ++ d) ++ y) (e3 ∙ ap (λ (t : List ℕ). (t ++ b) ++ x)
    (e2 ∙ ap (λ (t : List ℕ). ((t ++ nm) ++ a) ++ n) e1))) ∙ joined old f nm a n b x d y e
