-- Names and folders, one after the other: what each adds joins up to what all add. `add_names`, `add_folders`,
-- `next_level` and `files_below` cite them.
use Rattle.std.proofs.Common.{◌≡◌, ℕ, zero, suc, ◌+◌, ◌-◌, ◌<◌, ◌≤◌, List, [], ◌∷◌, ◌++◌, length, drop, get_or, refl}
use Rattle.std.proofs.Common.{sym, ap, subst, ◌∙◌, arith, append_assoc, append-nil, drop-cons, add-one, string_bytes}
use Rattle.std.proofs.Common.{Option, Some, None}
use Rattle.std.proofs.lemmas.List.{drop_all}
use Rattle.std.specs.Prelude.{IfSome}
use Rattle.std.specs.List.{flat_map}
use Rattle.std.specs.declared.string.String.{String}
use Rattle.std.specs.declared.alloc.Global.{Global}
use Rattle.folder_files.specs.declared.walk.Found.{Found}
use Rattle.folder_files.specs.Trees.{Tree, texts}
use Rattle.folder_files.specs.Files.{files_in, folders_in, files_below}
use Rattle.folder_files.specs.Walks.{Adds, IsNextLevel}

-- ---- one of several

step : (f : List ℕ → List (List ℕ)) (names : List (String Global)) (i : ℕ) (name : String Global) (text : List ℕ)
    (done now all : List (List ℕ)) → i < length names → name ≡ get_or names i name → text ≡ string_bytes name
    → now ≡ done ++ f text → done ++ flat_map f (texts (drop i names)) ≡ all
    → now ++ flat_map f (texts (drop (i + 1) names)) ≡ all
step f names i name text done now all inside is_name is_text added so_far =
    ap (λ (n : List (List ℕ)). n ++ flat_map f (texts (drop (i + 1) names))) added
    ∙ append_assoc done (f text) (flat_map f (texts (drop (i + 1) names)))
    ∙ ap (λ (r : List (List ℕ)). done ++ r) (sym whole) ∙ so_far
  where
    whole : flat_map f (texts (drop i names)) ≡ f text ++ flat_map f (texts (drop (i + 1) names))
    whole =
        ap (λ (ns : List (String Global)). flat_map f (texts ns))
        (drop-cons names i name inside ∙ ap (λ (n : String Global). n ∷ drop (suc i) names) (sym is_name)
        ∙ ap (λ (k : ℕ). name ∷ drop k names) (sym (add-one i)))
        ∙ ap (λ (t : List ℕ). f t ++ flat_map f (texts (drop (i + 1) names))) (sym is_text)

last : (f : List ℕ → List (List ℕ)) (names : List (String Global)) (i : ℕ) (now all : List (List ℕ))
    → length names ≤ i → now ++ flat_map f (texts (drop i names)) ≡ all → now ≡ all
last f names i now all behind so_far =
    sym (append-nil now)
    ∙ ap (λ (ns : List (String Global)). now ++ flat_map f (texts ns)) (sym (drop_all i names behind)) ∙ so_far

-- the names from a place on add what is left of what all add
pub record Joins (f g : List ℕ → List (List ℕ)) (names : List (String Global)) (a : Found) (i : ℕ) (b : Found)
    : Type 0 where
  pub files_are : texts b.files.items ++ flat_map f (texts (drop i names))
      ≡ texts a.files.items ++ flat_map f (texts names)
  pub folders_are : texts b.folders.items ++ flat_map g (texts (drop i names))
      ≡ texts a.folders.items ++ flat_map g (texts names)

abbrev pub Reaches : Option Tree → (Tree → List ℕ → List (List ℕ)) → (Tree → List ℕ → List (List ℕ))
    → List (String Global) → Found → ℕ → Found → Type 0
Reaches o f g names a i b = IfSome o (λ t. Joins (f t) (g t) names a i b)

pub none_yet : (o : Option Tree) (f g : Tree → List ℕ → List (List ℕ)) (names : List (String Global)) (a : Found)
    → Reaches o f g names a 0 a
none_yet None f g names a = tt
none_yet (Some t) f g names a = record { files_are = refl; folders_are = refl }

one : (o : Option Tree) (f g : Tree → List ℕ → List (List ℕ)) (names : List (String Global)) (i : ℕ)
    (name : String Global) (text : List ℕ) (a m b : Found) → i < length names → name ≡ get_or names i name
    → text ≡ string_bytes name → Reaches o f g names a i m → IfSome o (λ t. Adds (f t text) (g t text) m b)
    → Reaches o f g names a (i + 1) b
one None f g names i name text a m b inside is_name is_text so_far added = tt
one (Some t) f g names i name text a m b inside is_name is_text so_far added = record {
  files_are = step (f t) names i name text (texts m.files.items) (texts b.files.items)
      (texts a.files.items ++ flat_map (f t) (texts names)) inside is_name is_text added.files_are so_far.files_are;
  folders_are = step (g t) names i name text (texts m.folders.items) (texts b.folders.items)
      (texts a.folders.items ++ flat_map (g t) (texts names)) inside is_name is_text added.folders_are
      so_far.folders_are;
}

pub one_more : (o same : Option Tree) (f g : Tree → List ℕ → List (List ℕ)) (names : List (String Global)) (i : ℕ)
    (name : String Global) (text : List ℕ) (a m b : Found) → same ≡ o → i < length names
    → name ≡ get_or names i name → text ≡ string_bytes name → Reaches o f g names a i m
    → IfSome same (λ t. Adds (f t text) (g t text) m b) → Reaches o f g names a (i + 1) b
one_more o same f g names i name text a m b e inside is_name is_text so_far added =
    one o f g names i name text a m b inside is_name is_text so_far
    (subst (λ (s : Option Tree). IfSome s (λ t. Adds (f t text) (g t text) m b)) e added)

pub all_added : (o : Option Tree) (f g : Tree → List ℕ → List (List ℕ)) (names : List (String Global)) (i : ℕ)
    (a b : Found) → length names ≤ i → Reaches o f g names a i b
    → IfSome o (λ t. Adds (flat_map (f t) (texts names)) (flat_map (g t) (texts names)) a b)
all_added None f g names i a b behind so_far = tt
all_added (Some t) f g names i a b behind so_far = record {
  files_are = last (f t) names i (texts b.files.items) (texts a.files.items ++ flat_map (f t) (texts names)) behind
      so_far.files_are;
  folders_are = last (g t) names i (texts b.folders.items) (texts a.folders.items ++ flat_map (g t) (texts names))
      behind so_far.folders_are;
}

-- ---- one level after the other

pub next : (o : Option Tree) (a m b : Found) (folders : List (String Global)) → m.files.items ≡ a.files.items
    → m.folders.items ≡ [] → folders ≡ a.folders.items
    → IfSome o (λ t. Adds (flat_map (files_in t) (texts folders)) (flat_map (folders_in t) (texts folders)) m b)
    → IfSome o (λ t. IsNextLevel t a b)
next None a m b folders e1 e2 e3 added = tt
next (Some t) a m b folders e1 e2 e3 added = record {
  files_are = added.files_are ∙ ap (λ (fs : List (String Global)). texts fs ++ flat_map (files_in t) (texts folders)) e1
      ∙ ap (λ (fs : List (String Global)). texts a.files.items ++ flat_map (files_in t) (texts fs)) e3;
  folders_are = added.folders_are
      ∙ ap (λ (fs : List (String Global)). texts fs ++ flat_map (folders_in t) (texts folders)) e2
      ∙ ap (λ (fs : List (String Global)). flat_map (folders_in t) (texts fs)) e3;
}

-- so many levels are left
abbrev pub IsLeft : Option Tree → ℕ → ℕ → List (List ℕ) → Found → Type 0
IsLeft o n left folders b =
    IfSome o (λ t. texts b.files.items ++ files_below t left (texts b.folders.items) ≡ files_below t n folders)

pub all_left : (o : Option Tree) (n : ℕ) (folders : List (List ℕ)) (b : Found) → b.files.items ≡ []
    → texts b.folders.items ≡ folders → IsLeft o n n folders b
all_left None n folders b e1 e2 = tt
all_left (Some t) n folders b e1 e2 =
    ap (λ (fs : List (String Global)). texts fs ++ files_below t n (texts b.folders.items)) e1
    ∙ ap (λ (fs : List (List ℕ)). files_below t n fs) e2

down : (t : Tree) (left : ℕ) (all : List (List ℕ)) (a b : Found) → 0 < left → IsNextLevel t a b
    → texts a.files.items ++ files_below t left (texts a.folders.items) ≡ all
    → texts b.files.items ++ files_below t (left - 1) (texts b.folders.items) ≡ all
unfolding files_below
down t zero all a b some level so_far = absurd (omega arith)
down t (suc n) all a b some level so_far =
    ap (λ (k : ℕ). texts b.files.items ++ files_below t k (texts b.folders.items)) (let e : suc n - 1 ≡ n = omega arith in e)
    ∙ ap (λ (fs : List (List ℕ)). fs ++ files_below t n (texts b.folders.items)) level.files_are
    ∙ append_assoc (texts a.files.items) (flat_map (files_in t) (texts a.folders.items))
    (files_below t n (texts b.folders.items))
    ∙ ap (λ (fs : List (List ℕ)). texts a.files.items ++ (flat_map (files_in t) (texts a.folders.items)
    ++ files_below t n fs)) level.folders_are
    ∙ so_far

pub one_less : (o same : Option Tree) (n left : ℕ) (folders : List (List ℕ)) (a b : Found) → same ≡ o → 0 < left
    → IfSome same (λ t. IsNextLevel t a b) → IsLeft o n left folders a → IsLeft o n (left - 1) folders b
one_less None same n left folders a b e some level so_far = tt
one_less (Some t) same n left folders a b e some level so_far =
    down t left (files_below t n folders) a b some
    (subst (λ (s : Option Tree). IfSome s (λ t. IsNextLevel t a b)) e level) so_far

pub none_left : (o : Option Tree) (n left : ℕ) (folders : List (List ℕ)) (b : Found) → left ≡ 0
    → IsLeft o n left folders b → IfSome o (λ t. texts b.files.items ≡ files_below t n folders)
unfolding files_below
none_left None n left folders b e so_far = tt
none_left (Some t) n left folders b e so_far =
    sym (append-nil (texts b.files.items))
    ∙ ap (λ (k : ℕ). texts b.files.items ++ files_below t k (texts b.folders.items)) (sym e) ∙ so_far
