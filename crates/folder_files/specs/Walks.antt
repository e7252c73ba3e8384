-- What a step of the walk adds to what was found
use Rattle.std.specs.Prelude.{◌≡◌, ℕ, Bool, ◌||◌, List, ◌++◌, flat_map}
use Rattle.std.specs.declared.string.String.{String}
use Rattle.std.specs.declared.alloc.Global.{Global}
use Rattle.folder_files.specs.declared.walk.Found.{Found}
use Rattle.folder_files.specs.declared.walk.Files.{Files}
use Rattle.folder_files.specs.Trees.{Tree, texts}
use Rattle.folder_files.specs.Files.{files_in, folders_in, AreFilesAt, AreFiles, is_folder, has_folder}

pub record Adds (files folders : List (List ℕ)) (a b : Found) : Type 0 where
  pub files_are : texts b.files.items ≡ texts a.files.items ++ files
  pub folders_are : texts b.folders.items ≡ texts a.folders.items ++ folders

pub record IsNextLevel (tree : Tree) (a b : Found) : Type 0 where
  pub files_are : texts b.files.items ≡ texts a.files.items ++ flat_map (files_in tree) (texts a.folders.items)
  pub folders_are : texts b.folders.items ≡ flat_map (folders_in tree) (texts a.folders.items)

pub record AddsFiles (tree : Tree) (all : Bool) (path : List ℕ) (a b : Files) : Type 0 where
  pub more : List (String Global)
  pub are : AreFilesAt (tree.kind path) tree all path more
  pub added : b.paths.items ≡ a.paths.items ++ more
  pub has : b.has_folder ≡ (a.has_folder || is_folder (tree.kind path))

-- the files that paths stand for
pub record IsWhole (tree : Tree) (all : Bool) (paths : List (List ℕ)) (files : Files) : Type 0 where
  pub are : AreFiles tree all paths files.paths.items
  pub has : files.has_folder ≡ has_folder tree paths
