-- The names so far. For the loop of `add_names`.
use Rattle.std.proofs.Common.{◌≡◌}
use Rattle.folder_files.specs.Files.{file_named, folder_named}
use Rattle.folder_files.proofs.Steps.{Reaches}
use Rattle.folder_files.proofs.walk.add_names.Given as goal

abbrev pub invariant-loop-i : goal.invariant-loop-i
invariant-loop-i g l =
    Reaches (g.F.Folders.tree l.initial.tree) (λ t. file_named t l.folder) (λ t. folder_named t l.folder) l.names
    l.initial.found l.i l.found
    × (g.F.Folders.tree l.tree ≡ g.F.Folders.tree l.initial.tree)
