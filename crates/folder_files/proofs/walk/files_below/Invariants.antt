-- The levels so far. For the loop of `files_below`.
use Rattle.std.proofs.Common.{◌≡◌, [], ◌∷◌}
use Rattle.folder_files.specs.Files.{levels}
use Rattle.folder_files.proofs.Steps.{IsLeft}
use Rattle.folder_files.proofs.walk.files_below.Given as goal

abbrev pub invariant-levels : goal.invariant-levels
invariant-levels g l =
    IsLeft (g.F.Folders.tree l.initial.tree) (levels l.all) l.left (l.folder ∷ []) l.found
    × (g.F.Folders.tree l.tree ≡ g.F.Folders.tree l.initial.tree)

abbrev pub decreases-levels : goal.decreases-levels
decreases-levels g l = l.left
