-- The folders so far. For the loop of `add_folders`.
use Rattle.std.proofs.Common.{◌≡◌}
use Rattle.folder_files.specs.Files.{files_in, folders_in}
use Rattle.folder_files.proofs.Steps.{Reaches}
use Rattle.folder_files.proofs.walk.add_folders.Given as goal

abbrev pub invariant-loop-i : goal.invariant-loop-i
invariant-loop-i g l =
    Reaches (g.F.Folders.tree l.initial.tree) (λ t. files_in t) (λ t. folders_in t) l.folders
    l.initial.found l.i l.found
    × (g.F.Folders.tree l.tree ≡ g.F.Folders.tree l.initial.tree)
