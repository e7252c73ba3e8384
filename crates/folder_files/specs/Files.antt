-- The files that paths stand for
use Rattle.std.specs.Prelude.{◌≡◌, ℕ, zero, suc, Bool, true, false, List, [], ◌∷◌, ◌++◌, flat_map, Option, Some, None}
use Rattle.std.specs.Prelude.{if◌then◌else◌, ◌||◌}
use Rattle.std.specs.List.Sorted.{IsPermutation, IsSorted}
use Rattle.std.specs.String.{string_cmp}
use Rattle.std.specs.declared.string.String.{String}
use Rattle.std.specs.declared.alloc.Global.{Global}
use Rattle.folder_files.specs.declared.Kind.{Kind}
use Rattle.folder_files.specs.declared.Kind.TheVariants.{File, Folder, Link, Other}
use Rattle.folder_files.specs.Trees.{Tree, texts, is_shown, path_in}

-- of what stands in a folder files are taken; links to folders, devices, pipes and sockets are left out
abbrev pub file_by : Kind → List ℕ → List (List ℕ)
file_by File path = path ∷ []
file_by Folder path = []
file_by Link path = []
file_by Other path = []

abbrev pub folder_by : Kind → List ℕ → List (List ℕ)
folder_by Folder path = path ∷ []
folder_by File path = []
folder_by Link path = []
folder_by Other path = []

-- hidden names are left out
abbrev pub file_named : Tree → List ℕ → List ℕ → List (List ℕ)
file_named tree folder name =
    if is_shown name then file_by (tree.kind (path_in folder name)) (path_in folder name) else []

abbrev pub folder_named : Tree → List ℕ → List ℕ → List (List ℕ)
folder_named tree folder name =
    if is_shown name then folder_by (tree.kind (path_in folder name)) (path_in folder name) else []

-- a folder whose names cannot be read is taken for a file, so that it is told why
abbrev pub files_by : Tree → List ℕ → Option (List (List ℕ)) → List (List ℕ)
files_by tree folder None = folder ∷ []
files_by tree folder (Some names) = flat_map (file_named tree folder) names

abbrev pub folders_by : Tree → List ℕ → Option (List (List ℕ)) → List (List ℕ)
folders_by tree folder None = []
folders_by tree folder (Some names) = flat_map (folder_named tree folder) names

abbrev pub files_in : Tree → List ℕ → List (List ℕ)
files_in tree folder = files_by tree folder (tree.names folder)

abbrev pub folders_in : Tree → List ℕ → List (List ℕ)
folders_in tree folder = folders_by tree folder (tree.names folder)

-- the files in folders, and in those below them, so many levels deep
unfoldable pub files_below : Tree → ℕ → List (List ℕ) → List (List ℕ)
files_below tree zero folders = []
files_below tree (suc n) folders =
    flat_map (files_in tree) folders ++ files_below tree n (flat_map (folders_in tree) folders)

-- folders below are gone through if that is asked for, 64 levels deep at most
abbrev pub levels : Bool → ℕ
levels true = 64
levels false = 1

-- these files, in the order of their paths' bytes
pub record AreInOrder (found : List (List ℕ)) (files : List (String Global)) : Type 0 where
  pub unsorted : List (String Global)
  pub are : texts unsorted ≡ found
  pub permutation : IsPermutation unsorted files
  pub sorted : IsSorted string_cmp files

-- a folder that is named, or a link to one, stands for its files; any other path for itself
abbrev pub AreFilesAt : Kind → Tree → Bool → List ℕ → List (String Global) → Type 0
AreFilesAt Folder tree all path files = AreInOrder (files_below tree (levels all) (path ∷ [])) files
AreFilesAt Link tree all path files = AreInOrder (files_below tree (levels all) (path ∷ [])) files
AreFilesAt File tree all path files = texts files ≡ path ∷ []
AreFilesAt Other tree all path files = texts files ≡ path ∷ []

-- of several paths, one after another
unfoldable pub AreFiles : Tree → Bool → List (List ℕ) → List (String Global) → Type 0
AreFiles tree all [] files = files ≡ []
AreFiles tree all (path ∷ paths) files =
    (front : List (String Global)) × (rest : List (String Global)) × (files ≡ front ++ rest)
    × AreFilesAt (tree.kind path) tree all path front × AreFiles tree all paths rest

-- whether a folder is among them
abbrev pub is_folder : Kind → Bool
is_folder Folder = true
is_folder Link = true
is_folder File = false
is_folder Other = false

unfoldable pub has_folder : Tree → List (List ℕ) → Bool
has_folder tree [] = false
has_folder tree (path ∷ paths) = is_folder (tree.kind path) || has_folder tree paths
