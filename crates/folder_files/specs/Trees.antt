-- What stands in folders
use Rattle.std.specs.Prelude.{ℕ, List, [], ◌∷◌, ◌++◌, codes, nat_eq, Bool, not, if◌then◌else◌, map, Option, string_bytes}
use Rattle.std.specs.List.{starts_with, ends_with}
use Rattle.std.specs.Global.{Vec}
use Rattle.std.specs.declared.string.String.{String}
use Rattle.std.specs.declared.alloc.Global.{Global}
use Rattle.folder_files.specs.declared.Kind.{Kind}

-- what stands at each path, and the names in a folder, if they can be read
pub record Tree : Type 0 where
  pub kind : List ℕ → Kind
  pub names : List ℕ → Option (List (List ℕ))

abbrev pub texts : List (String Global) → List (List ℕ)
texts paths = map (λ (p : String Global). string_bytes p) paths

abbrev pub texts_of : Vec (String Global) → List (List ℕ)
texts_of paths = texts paths.items

-- a name that begins with a dot is hidden
abbrev pub is_shown : List ℕ → Bool
is_shown name = not (starts_with nat_eq name (codes "."))

abbrev pub path_in : List ℕ → List ℕ → List ℕ
path_in folder name =
    if ends_with nat_eq folder (codes "/") then folder ++ name else folder ++ codes "/" ++ name
