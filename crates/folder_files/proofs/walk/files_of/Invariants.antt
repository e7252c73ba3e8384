-- The paths so far. For the loop of `files_of`.
use Rattle.std.proofs.Common.{◌≡◌}
use Rattle.folder_files.proofs.Whole.{SoFar}
use Rattle.folder_files.proofs.walk.files_of.Given as goal

abbrev pub invariant-loop-i : goal.invariant-loop-i
invariant-loop-i g l =
    SoFar (g.F.Folders.tree l.initial.tree) l.all l.paths l.i l.files
    × (g.F.Folders.tree l.tree ≡ g.F.Folders.tree l.initial.tree)
