-- The dumps that are kept, one dump more. For the loops of `causes`.
use Rattle.std.proofs.Common.{◌≡◌, ℕ, ◌+◌, ◌<◌, ◌≤◌, Bool, true, false, not, ◌&&◌, ◌||◌, nat_lt, cond, List, [], ◌∷◌}
use Rattle.std.proofs.Common.{◌++◌, length, take, drop, get_or, map, append-nil, append_assoc, refl, sym, ap, ap₂, ◌∙◌}
use Rattle.std.proofs.Common.{arith, Option, None}
use Rattle.std.specs.Prelude.{filter, flat_map, if◌then◌else◌}
use Rattle.std.specs.List.{list_any}
use Rattle.std.proofs.lemmas.Bool.Decides.{nat_tests}
use Rattle.std.proofs.lemmas.List.{map-append, take_more, take_all, take-append-le, length-take, length-append}
use Rattle.std.proofs.lemmas.List.{at_drop_more, at_drop_all}
use Rattle.std.proofs.lemmas.List.Concat.{flat_map-append}
use Rattle.std.proofs.lemmas.List.Elements.{filter-append}
use Rattle.std.proofs.lemmas.List.Sums.{fold-append}
use Rattle.report_spec.specs.Packed.{RecordShown}
use Rattle.report_spec.specs.Newest.{newer_of, newest}
use Rattle.report_html.specs.declared.causes.Crash.{Crash}
use Rattle.report_html.specs.Pieces.{Part}
use Rattle.report_html.specs.Causes.{CrashShown, crash_of, is_dump, crashes_of, has_line_of, with_first, firsts_of}
use Rattle.report_html.specs.Causes.{has_no_row, crash_in, crashes_in}

-- ---- one dump more

crashes-more : (cs : List Crash) (i : ℕ) (c : Crash) → i < length cs → c ≡ get_or cs i c
    → crashes_in (take (i + 1) cs) ≡ crashes_in (take i cs) ++ crash_in c ∷ []
crashes-more cs i c lt is =
    ap crashes_in (take_more cs i c lt ∙ ap (λ (d : Crash). take i cs ++ d ∷ []) (sym is))
    ∙ map-append crash_in (take i cs) (c ∷ [])

-- of the records
pub records-more : (rs : List RecordShown) (i : ℕ) (r : RecordShown) (old new : List CrashShown) → i < length rs
    → r ≡ get_or rs i r → old ≡ crashes_of (take i rs) → new ≡ old ++ crashes_of (r ∷ [])
    → new ≡ crashes_of (take (i + 1) rs)
records-more rs i r old new lt is was added =
    added ∙ ap (λ (cs : List CrashShown). cs ++ crashes_of (r ∷ [])) was
    ∙ sym (ap crashes_of (take_more rs i r lt ∙ ap (λ (q : RecordShown). take i rs ++ q ∷ []) (sym is))
    ∙ ap (λ (qs : List RecordShown). map crash_of qs) (filter-append is_dump (take i rs) (r ∷ []))
    ∙ map-append crash_of (filter is_dump (take i rs)) (filter is_dump (r ∷ [])))

-- of those that pass a test
pub kept-more : (p : CrashShown → Bool) (cs : List Crash) (i : ℕ) (c : Crash) (is_kept : Bool)
    (old new : List CrashShown) → i < length cs → c ≡ get_or cs i c → old ≡ filter p (crashes_in (take i cs))
    → is_kept ≡ p (crash_in c) → new ≡ old ++ (if is_kept then crash_in c ∷ [] else [])
    → new ≡ filter p (crashes_in (take (i + 1) cs))
kept-more p cs i c is_kept old new lt is was test added =
    added
    ∙ ap₂ (λ (ds : List CrashShown) (t : Bool). ds ++ (if t then crash_in c ∷ [] else [])) was test
    ∙ sym (ap (λ (ds : List CrashShown). filter p ds) (crashes-more cs i c lt is)
    ∙ filter-append p (crashes_in (take i cs)) (crash_in c ∷ []))

-- of which the newest is held
pub newest-more : (cs : List Crash) (i : ℕ) (c : Crash) (old new : Option RecordShown) → i < length cs
    → c ≡ get_or cs i c → old ≡ newest (map (λ (d : CrashShown). d.dump) (crashes_in (take i cs)))
    → new ≡ newer_of old c.dump.now → new ≡ newest (map (λ (d : CrashShown). d.dump) (crashes_in (take (i + 1) cs)))
newest-more cs i c old new lt is was held =
    let dump : CrashShown → RecordShown = λ d. d.dump in
    held ∙ ap (λ (o : Option RecordShown). newer_of o c.dump.now) was
    ∙ sym (ap (λ (ds : List CrashShown). newest (map dump ds)) (crashes-more cs i c lt is)
    ∙ ap newest (map-append dump (crashes_in (take i cs)) (crash_in c ∷ []))
    ∙ fold-append newer_of None (map dump (crashes_in (take i cs))) (c.dump.now ∷ []))

-- of which each line has a first
pub firsts-more : (cs : List Crash) (i : ℕ) (c : Crash) → i < length cs → c ≡ get_or cs i c
    → firsts_of (crashes_in (take (i + 1) cs)) ≡ with_first (firsts_of (crashes_in (take i cs))) (crash_in c)
firsts-more cs i c lt is =
    ap firsts_of (crashes-more cs i c lt is)
    ∙ fold-append with_first [] (crashes_in (take i cs)) (crash_in c ∷ [])

-- whose parts are added
pub parts-more : (f : CrashShown → List Part) (cs : List Crash) (i : ℕ) (c : Crash) (old p new : List Part)
    → i < length cs → c ≡ get_or cs i c → p ≡ old ++ flat_map f (crashes_in (take i cs)) → new ≡ p ++ f (crash_in c)
    → new ≡ old ++ flat_map f (crashes_in (take (i + 1) cs))
parts-more f cs i c old p new lt is was added =
    let done : List Part = flat_map f (crashes_in (take i cs)) in
    added ∙ ap (λ (ps : List Part). ps ++ f (crash_in c)) was ∙ append_assoc old done (f (crash_in c))
    ∙ ap (λ (ps : List Part). old ++ ps)
    (ap (λ (ps : List Part). done ++ ps) (sym (append-nil (f (crash_in c))))
    ∙ sym (ap (λ (ds : List CrashShown). flat_map f ds) (crashes-more cs i c lt is)
    ∙ flat_map-append f (crashes_in (take i cs)) (crash_in c ∷ [])))

-- ---- whether a line has a row

pub any-on : (p : CrashShown → Bool) (cs : List Crash) (i : ℕ) (c : Crash) (any : Bool) → i < length cs
    → c ≡ get_or cs i c → any ≡ list_any p (crashes_in (drop i cs))
    → any ≡ (p (crash_in c) || list_any p (crashes_in (drop (i + 1) cs)))
any-on p cs i c any lt is was =
    was ∙ at_drop_more (λ (ds : List Crash). list_any p (crashes_in ds)) cs i c lt
    ∙ ap (λ (d : Crash). list_any p (crashes_in (d ∷ drop (i + 1) cs))) (sym is)

pub any-next : (p : CrashShown → Bool) (cs : List Crash) (i : ℕ) (c : Crash) (any : Bool) → i < length cs
    → c ≡ get_or cs i c → any ≡ list_any p (crashes_in (drop i cs)) → p (crash_in c) ≡ false
    → any ≡ list_any p (crashes_in (drop (i + 1) cs))
any-next p cs i c any lt is was not_it =
    any-on p cs i c any lt is was ∙ ap (λ (t : Bool). t || list_any p (crashes_in (drop (i + 1) cs))) not_it

pub any-found : (p : CrashShown → Bool) (cs : List Crash) (i : ℕ) (c : Crash) (any : Bool) → i < length cs
    → c ≡ get_or cs i c → any ≡ list_any p (crashes_in (drop i cs)) → p (crash_in c) ≡ true → false ≡ not any
any-found p cs i c any lt is was it =
    sym (ap not (any-on p cs i c any lt is was
    ∙ ap (λ (t : Bool). t || list_any p (crashes_in (drop (i + 1) cs))) it))

pub any-none : (p : CrashShown → Bool) (cs : List Crash) (i : ℕ) (any : Bool) → length cs ≤ i
    → any ≡ list_any p (crashes_in (drop i cs)) → true ≡ not any
any-none p cs i any past was =
    sym (ap not (was ∙ at_drop_all (λ (ds : List Crash). list_any p (crashes_in ds)) cs i past))

-- ---- the first 15 lines have rows

few : (fs : List CrashShown) (c : CrashShown) (any : Bool) → length fs < 15
    → fs ++ cond (not any) (c ∷ []) [] ≡ take 15 (cond any fs (fs ++ c ∷ []))
few fs c true lt = append-nil fs ∙ sym (take_all 15 fs (omega (arith, lt)))
few fs c false lt =
    sym (take_all 15 (fs ++ c ∷ []) (let l = length-append fs (c ∷ []) in omega (arith, lt, l)))

many : (fs : List CrashShown) (c : CrashShown) (any : Bool) → 15 ≤ length fs
    → take 15 fs ≡ take 15 (cond any fs (fs ++ c ∷ []))
many fs c true le = refl
many fs c false le = sym (take-append-le 15 fs (c ∷ []) le)

row-by : (fs : List CrashShown) (c : CrashShown) (room : Bool) → nat_lt (length (take 15 fs)) 15 ≡ room
    → take 15 fs ++ cond (room && has_no_row (take 15 fs) c) (c ∷ []) [] ≡ take 15 (with_first fs c)
row-by fs c true e =
    let l = length-take 15 fs in
    let short : length (take 15 fs) < 15 = grind (arith, nat_tests, e) in
    let lt : length fs < 15 = omega (arith, l, short) in
    let all : take 15 fs ≡ fs = take_all 15 fs (omega (arith, lt)) in
    ap (λ (gs : List CrashShown). gs ++ cond (not (list_any (has_line_of c) gs)) (c ∷ []) []) all
    ∙ few fs c (list_any (has_line_of c) fs) lt
row-by fs c false e =
    let l = length-take 15 fs in
    let long : 15 ≤ length (take 15 fs) = grind (arith, nat_tests, e) in
    append-nil (take 15 fs) ∙ many fs c (list_any (has_line_of c) fs) (omega (arith, l, long))

-- one row more, or none
pub row-more : (rows new fs : List CrashShown) (c : CrashShown) (is_new : Bool)
    → is_new ≡ (nat_lt (length rows) 15 && has_no_row rows c) → new ≡ rows ++ (if is_new then c ∷ [] else [])
    → rows ≡ take 15 fs → new ≡ take 15 (with_first fs c)
row-more rows new fs c is_new test kept are =
    kept ∙ ap (λ (t : Bool). rows ++ (if t then c ∷ [] else [])) test
    ∙ ap (λ (gs : List CrashShown). gs ++ (if nat_lt (length gs) 15 && has_no_row gs c then c ∷ [] else [])) are
    ∙ row-by fs c (nat_lt (length (take 15 fs)) 15) refl
