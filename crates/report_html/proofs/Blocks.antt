-- Runs of blocks that read alike
use Rattle.std.proofs.Common.{◌≡◌, ℕ, suc, ◌+◌, ◌<◌, ◌≤◌, Bool, true, false, if◌then◌else◌, List, [], ◌∷◌, ◌++◌, length}
use Rattle.std.proofs.Common.{drop, get_or, refl, ap, sym, ◌∙◌, arith, append_assoc, append-nil, Some}
use Rattle.std.specs.Prelude.{slice_get, flat_map}
use Rattle.std.proofs.lemmas.Bool.Decides.{nat_tests}
use Rattle.std.proofs.lemmas.List.{drop_more, drop-drop}
use Rattle.std.proofs.Math.ListN.{drop_of_length-le}
use Rattle.std.proofs.lemmas.Option.{slice_get-get_or}
use Rattle.zone_spec.specs.declared.PartState.{PartState}
use Rattle.zone_spec.specs.declared.PartState.TheVariants.{Read, Bad}
use Rattle.report_html.specs.Pictures.{Run, is_alike, with_block, runs}

-- how many blocks at the front read so
unfoldable pub alike : PartState → List PartState → ℕ
alike s [] = 0
alike s (x ∷ xs) = if is_alike s x then alike s xs + 1 else 0

same-state : (s x : PartState) → is_alike s x ≡ true → x ≡ s
same-state (Read m) (Read n) e = ap (λ (k : ℕ). Read k) (let n : n ≡ m = grind (arith, nat_tests) in n)
same-state (Read m) Bad e = cc
same-state Bad (Read n) e = cc
same-state Bad Bad e = refl

-- a run up to a block, and those after it
abbrev run-to : ℕ → PartState → ℕ → List PartState → List Run
run-to b s to rest = record { from = b; to = to; state = s } ∷ runs to rest

alike-more : (s x : PartState) (xs : List PartState) → is_alike s x ≡ true → alike s (x ∷ xs) ≡ alike s xs + 1
unfolding alike
alike-more s x xs e = ap (λ (t : Bool). if t then alike s xs + 1 else 0) e

alike-none : (s x : PartState) (xs : List PartState) → is_alike s x ≡ false → alike s (x ∷ xs) ≡ 0
unfolding alike
alike-none s x xs e = ap (λ (t : Bool). if t then alike s xs + 1 else 0) e

joins : (b to : ℕ) (s x : PartState) (rest : List PartState) → is_alike s x ≡ true
    → with_block b s (run-to (b + 1) x to rest) ≡ run-to b s to rest
unfolding with_block
joins b to s x rest e =
    ap (λ (t : Bool). if t then run-to b s to rest else record { from = b; to = b + 1; state = s }
    ∷ run-to (b + 1) x to rest) e

parts-from : (b to : ℕ) (s x : PartState) (rest : List PartState) → is_alike s x ≡ false
    → with_block b s (run-to (b + 1) x to rest) ≡ record { from = b; to = b + 1; state = s } ∷ run-to (b + 1) x to rest
unfolding with_block
parts-from b to s x rest e =
    ap (λ (t : Bool). if t then run-to b s to rest else record { from = b; to = b + 1; state = s }
    ∷ run-to (b + 1) x to rest) e

runs-more : (b : ℕ) (s : PartState) (xs : List PartState) → runs b (s ∷ xs) ≡ with_block b s (runs (b + 1) xs)
unfolding runs
runs-more b s xs = refl

drop-one : (n : ℕ) (x : PartState) (xs : List PartState) → drop (n + 1) (x ∷ xs) ≡ drop n xs
drop-one n x xs = ap (λ (k : ℕ). drop k (x ∷ xs)) (let e : n + 1 ≡ suc n = omega arith in e)

run-none : (b : ℕ) (s : PartState) → runs b (s ∷ []) ≡ run-to b s (b + 1 + alike s []) (drop (alike s []) [])
unfolding runs with_block alike
run-none b s = ap (λ (k : ℕ). run-to b s k []) (let e : b + 1 ≡ b + 1 + 0 = omega arith in e)

-- the first run takes all blocks at the front that read alike
run-first : (b : ℕ) (s : PartState) (xs : List PartState)
    → runs b (s ∷ xs) ≡ run-to b s (b + 1 + alike s xs) (drop (alike s xs) xs)
run-first b s [] = run-none b s
run-first b s (x ∷ xs) = runs-more b s (x ∷ xs) ∙ ap (λ (rs : List Run). with_block b s rs) (run-first (b + 1) x xs)
    ∙ by (run-first (b + 1) x xs) (is_alike s x) refl
  where
    by : runs (b + 1) (x ∷ xs) ≡ run-to (b + 1) x (b + 1 + 1 + alike x xs) (drop (alike x xs) xs)
        → (t : Bool) → is_alike s x ≡ t
        → with_block b s (run-to (b + 1) x (b + 1 + 1 + alike x xs) (drop (alike x xs) xs))
        ≡ run-to b s (b + 1 + alike s (x ∷ xs)) (drop (alike s (x ∷ xs)) (x ∷ xs))
    by rest true e =
        let n = alike s xs in
        joins b (b + 1 + 1 + alike x xs) s x (drop (alike x xs) xs) e
        ∙ ap (λ (y : PartState). run-to b s (b + 1 + 1 + alike y xs) (drop (alike y xs) xs)) (same-state s x e)
        ∙ ap (λ (k : ℕ). run-to b s k (drop n xs)) (let f : b + 1 + 1 + n ≡ b + 1 + (n + 1) = omega arith in f)
        ∙ ap (λ (rest : List PartState). run-to b s (b + 1 + (n + 1)) rest) (sym (drop-one n x xs))
        ∙ ap (λ (k : ℕ). run-to b s (b + 1 + k) (drop k (x ∷ xs))) (sym (alike-more s x xs e))
    by rest false e =
        parts-from b (b + 1 + 1 + alike x xs) s x (drop (alike x xs) xs) e
        ∙ ap (λ (rs : List Run). record { from = b; to = b + 1; state = s } ∷ rs) (sym rest)
        ∙ ap (λ (k : ℕ). run-to b s k (x ∷ xs)) (let f : b + 1 ≡ b + 1 + 0 = omega arith in f)
        ∙ ap (λ (k : ℕ). run-to b s (b + 1 + k) (drop k (x ∷ xs))) (sym (alike-none s x xs e))

-- ---- where a run ends

-- so many blocks read alike up to a place, and those at the front of the rest
abbrev pub AlikeTo : List PartState → (from to : ℕ) → PartState → Type 0
AlikeTo blocks from to s = to + alike s (drop to blocks) ≡ from + 1 + alike s (drop (from + 1) blocks)

-- the state of a block, and whether another one reads alike
state-at : (blocks : List PartState) (from : ℕ) (s d : PartState) → from < length blocks
    → slice_get blocks from ≡ Some s → get_or blocks from d ≡ s
state-at blocks from s d lt here =
    let is : Some (get_or blocks from d) ≡ Some s = sym (slice_get-get_or blocks from d lt) ∙ here in
    let own : get_or blocks from d ≡ s = cc in
    own

told-at : (blocks : List PartState) (from to : ℕ) (s d : PartState) (t r : Bool) → from < length blocks
    → slice_get blocks from ≡ Some s → t ≡ is_alike (get_or blocks from d) (get_or blocks to d) → t ≡ r
    → is_alike s (get_or blocks to d) ≡ r
told-at blocks from to s d t r lt here told is =
    ap (λ (x : PartState). is_alike x (get_or blocks to d)) (sym (state-at blocks from s d lt here)) ∙ sym told ∙ is

pub alike-next : (blocks : List PartState) (from to : ℕ) (s d : PartState) (t : Bool) → from < length blocks
    → to < length blocks → slice_get blocks from ≡ Some s → AlikeTo blocks from to s
    → t ≡ is_alike (get_or blocks from d) (get_or blocks to d) → t ≡ true → AlikeTo blocks from (to + 1) s
alike-next blocks from to s d t lt within here was told is =
    let x = get_or blocks to d in
    let more : alike s (drop to blocks) ≡ alike s (drop (to + 1) blocks) + 1 =
    ap (λ (xs : List PartState). alike s xs) (drop_more blocks to d within)
    ∙ alike-more s x (drop (to + 1) blocks) (told-at blocks from to s d t true lt here told is) in
    omega (arith, was, more)

alike-past : (s : PartState) → alike s [] ≡ 0
unfolding alike
alike-past s = refl

ends-at : (blocks : List PartState) (from to : ℕ) (s : PartState) → from < length blocks
    → slice_get blocks from ≡ Some s → AlikeTo blocks from to s → alike s (drop to blocks) ≡ 0
    → runs from (drop from blocks) ≡ run-to from s to (drop to blocks)
ends-at blocks from to s lt here was none =
    let rest = drop (from + 1) blocks in
    let end : from + 1 + alike s rest ≡ to = omega (arith, was, none) in
    ap (λ (xs : List PartState). runs from xs) (drop_more blocks from s lt
    ∙ ap (λ (x : PartState). x ∷ rest) (state-at blocks from s s lt here))
    ∙ run-first from s rest
    ∙ ap (λ (xs : List PartState). run-to from s (from + 1 + alike s rest) xs)
    (drop-drop (alike s rest) (from + 1) blocks)
    ∙ ap (λ (k : ℕ). run-to from s k (drop k blocks)) end

-- the next block reads otherwise
pub ends-before : (blocks : List PartState) (from to : ℕ) (s d : PartState) (t : Bool) → from < length blocks
    → to < length blocks → slice_get blocks from ≡ Some s → AlikeTo blocks from to s
    → t ≡ is_alike (get_or blocks from d) (get_or blocks to d) → t ≡ false
    → runs from (drop from blocks) ≡ record { from = from; to = to; state = s } ∷ runs to (drop to blocks)
ends-before blocks from to s d t lt within here was told is =
    ends-at blocks from to s lt here was
    (ap (λ (xs : List PartState). alike s xs) (drop_more blocks to d within)
    ∙ alike-none s (get_or blocks to d) (drop (to + 1) blocks) (told-at blocks from to s d t false lt here told is))

-- there is no next block
pub ends-last : (blocks : List PartState) (from to : ℕ) (s : PartState) → from < length blocks
    → to ≡ length blocks → slice_get blocks from ≡ Some s → AlikeTo blocks from to s
    → runs from (drop from blocks) ≡ run-to from s (length blocks) (drop (length blocks) blocks)
ends-last blocks from to s lt past here was =
    ends-at blocks from to s lt here was
    (ap (λ (xs : List PartState). alike s xs) (drop_of_length-le blocks (omega (arith, past))) ∙ alike-past s)
    ∙ ap (λ (k : ℕ). run-to from s k (drop k blocks)) past

-- ---- runs that are added one after another

-- what was added, and what is added for the runs from a block on, are all
abbrev pub IsLeft : {X : Type 0} → (Run → List X) → List PartState → (from : ℕ) → (added all : List X) → Type 0
IsLeft f blocks from added all = added ++ flat_map f (runs from (drop from blocks)) ≡ all

pub run-more : {X : Type 0} (f : Run → List X) (blocks : List PartState) (from to : ℕ) (s : PartState) (old new all : List X)
    → runs from (drop from blocks) ≡ record { from = from; to = to; state = s } ∷ runs to (drop to blocks)
    → new ≡ old ++ f (record { from = from; to = to; state = s })
    → IsLeft f blocks from old all → IsLeft f blocks to new all
run-more {X} f blocks from to s old new all first added was =
    let rest : List X = flat_map f (runs to (drop to blocks)) in
    let own : List X = f (record { from = from; to = to; state = s }) in
    ap (λ (ps : List X). ps ++ rest) added ∙ append_assoc old own rest
    ∙ ap (λ (rs : List Run). old ++ flat_map f rs) (sym first) ∙ was

runs-none : (b : ℕ) → runs b [] ≡ []
unfolding runs
runs-none b = refl

pub runs-done : {X : Type 0} (f : Run → List X) (blocks : List PartState) (from : ℕ) (added all : List X)
    → length blocks ≤ from → IsLeft f blocks from added all → added ≡ all
runs-done {X} f blocks from added all past was =
    sym (append-nil added)
    ∙ ap (λ (rs : List Run). added ++ flat_map f rs)
    (sym (ap (λ (xs : List PartState). runs from xs) (drop_of_length-le blocks past) ∙ runs-none from))
    ∙ was
