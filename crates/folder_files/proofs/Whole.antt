-- Paths that are named, one after the other. `files_of` cites them.
use Rattle.std.proofs.Common.{◌≡◌, ℕ, ◌+◌, ◌<◌, ◌≤◌, Bool, true, false, List, [], ◌∷◌, ◌++◌, length, take, get_or, refl}
use Rattle.std.proofs.Common.{sym, ap, subst, ◌∙◌, append_assoc, append-nil, string_bytes, Option, Some, None}
use Rattle.std.proofs.lemmas.List.{take_all, map_more}
use Rattle.std.specs.Prelude.{IfSome, ◌||◌}
use Rattle.std.specs.declared.string.String.{String}
use Rattle.std.specs.declared.alloc.Global.{Global}
use Rattle.folder_files.specs.declared.Kind.TheVariants.{File}
use Rattle.folder_files.specs.declared.walk.Files.{Files}
use Rattle.folder_files.specs.Trees.{Tree, texts}
use Rattle.folder_files.specs.Files.{AreFilesAt, AreFiles, is_folder, has_folder}
use Rattle.folder_files.specs.Walks.{AddsFiles, IsWhole}

more_files : (t : Tree) (all : Bool) (paths : List (List ℕ)) (path : List ℕ) (files more : List (String Global))
    → AreFiles t all paths files → AreFilesAt (t.kind path) t all path more
    → AreFiles t all (paths ++ path ∷ []) (files ++ more)
unfolding AreFiles
more_files t all [] path files more are at =
    (more, [], ap (λ (fs : List (String Global)). fs ++ more) are ∙ sym (append-nil more), at, refl)
more_files t all (first ∷ paths) path files more are at = (
  are.0,
  are.1 ++ more,
  ap (λ (fs : List (String Global)). fs ++ more) are.2 ∙ append_assoc are.0 are.1 more,
  are.3,
  more_files t all paths path are.1 more are.4 at,
)

or_none : (b : Bool) → (b || false) ≡ (false || b)
or_none true = refl
or_none false = refl

or_more : (b x y : Bool) → (b || (x || y)) ≡ ((b || x) || y)
or_more true x y = refl
or_more false x y = refl

has_more : (t : Tree) (paths : List (List ℕ)) (path : List ℕ)
    → has_folder t (paths ++ path ∷ []) ≡ (has_folder t paths || is_folder (t.kind path))
unfolding has_folder
has_more t [] path = or_none (is_folder (t.kind path))
has_more t (first ∷ paths) path =
    ap (λ (h : Bool). is_folder (t.kind first) || h) (has_more t paths path)
    ∙ or_more (is_folder (t.kind first)) (has_folder t paths) (is_folder (t.kind path))

whole_more : (t : Tree) (all : Bool) (paths : List (List ℕ)) (path : List ℕ) (a b : Files) → IsWhole t all paths a
    → AddsFiles t all path a b → IsWhole t all (paths ++ path ∷ []) b
whole_more t all paths path a b whole adds = record {
  are = subst (λ (fs : List (String Global)). AreFiles t all (paths ++ path ∷ []) fs) (sym adds.added)
      (more_files t all paths path a.paths.items adds.more whole.are adds.are);
  has = adds.has ∙ ap (λ (h : Bool). h || is_folder (t.kind path)) whole.has ∙ sym (has_more t paths path);
}

abbrev pub SoFar : Option Tree → Bool → List (String Global) → ℕ → Files → Type 0
SoFar o all paths i files = IfSome o (λ t. IsWhole t all (texts (take i paths)) files)

pub none_yet : (o : Option Tree) (all : Bool) (paths : List (String Global)) (files : Files) → files.paths.items ≡ []
    → files.has_folder ≡ false → SoFar o all paths 0 files
unfolding AreFiles has_folder
none_yet None all paths files e h = tt
none_yet (Some t) all paths files e h = record { are = e; has = h }

pub one_more : (o same : Option Tree) (all : Bool) (paths : List (String Global)) (i : ℕ) (path : String Global)
    (text : List ℕ) (a b : Files) → same ≡ o → i < length paths → path ≡ get_or paths i path
    → text ≡ string_bytes path → SoFar o all paths i a → IfSome same (λ t. AddsFiles t all text a b)
    → SoFar o all paths (i + 1) b
one_more None same all paths i path text a b e inside is_path is_text so_far adds = tt
one_more (Some t) same all paths i path text a b e inside is_path is_text so_far adds =
    subst (λ (ps : List (List ℕ)). IsWhole t all ps b) longer
    (whole_more t all (texts (take i paths)) text a b so_far
    (subst (λ (s : Option Tree). IfSome s (λ t. AddsFiles t all text a b)) e adds))
  where
    longer : texts (take i paths) ++ text ∷ [] ≡ texts (take (i + 1) paths)
    longer =
        ap (λ (p : List ℕ). texts (take i paths) ++ p ∷ []) (is_text ∙ ap (λ (p : String Global). string_bytes p) is_path)
        ∙ sym (map_more (λ (p : String Global). string_bytes p) paths i path inside)

pub all_done : (o : Option Tree) (all : Bool) (paths : List (String Global)) (i : ℕ) (files : Files)
    → length paths ≤ i → SoFar o all paths i files → IfSome o (λ t. IsWhole t all (texts paths) files)
all_done None all paths i files behind so_far = tt
all_done (Some t) all paths i files behind so_far =
    subst (λ (ps : List (String Global)). IsWhole t all (texts ps) files) (take_all i paths behind) so_far
