-- The files of the records so far are made, with no fault. For the loop of `save`.
use Rattle.std.proofs.Common.{◌≡◌, take}
use Rattle.report_tool.specs.Saved.{Makes, files_of}
use Rattle.report_tool.proofs.saving.save.Given as goal

-- the files of the records before this one were made
abbrev pub invariant-loop-held : goal.invariant-loop-held
invariant-loop-held g l =
    Makes (g.F.Folder.made l.initial.folder) (g.F.Folder.made l.folder) (files_of l.report.origin (take l.held-index l.held-items))
    × (g.F.Folder.faults l.folder ≡ g.F.Folder.faults l.initial.folder)
