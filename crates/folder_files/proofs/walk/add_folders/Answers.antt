-- One folder more, and all. For `add_folders`.
use Rattle.std.proofs.Common.{◌∙◌, refl}
use Rattle.folder_files.specs.Files.{files_in, folders_in}
use Rattle.folder_files.proofs.Steps.{none_yet, one_more, all_added}
use Rattle.folder_files.proofs.walk.add_folders.Goals as goal

pub loop-i-init : goal.loop-i-init
loop-i-init g c = (
  none_yet (g.F.Folders.tree c.args.tree.now) (λ t. files_in t)
      (λ t. folders_in t) c.args.folders.now c.args.found.now,
  refl,
)

pub loop-i-preserved : goal.loop-i-preserved
loop-i-preserved g c = (
  one_more (g.F.Folders.tree c.args.tree.now) (g.F.Folders.tree c.loop-i.tree) (λ t. files_in t)
      (λ t. folders_in t) c.args.folders.now c.loop-i.i c.index-folders-i.result c.deref.result.now
      c.args.found.now c.loop-i.found _ c.loop-i.invariant.1 c.loop-i-test.true c.index-folders-i.is c.deref.ensures
      c.loop-i.invariant.0 c.in_ok-add_folder.ensures.added,
  c.in_ok-add_folder.ensures.same ∙ c.loop-i.invariant.1,
)

pub returns-clause-added : goal.returns-clause-added
returns-clause-added g c =
    all_added (g.F.Folders.tree c.args.tree.now) (λ t. files_in t)
    (λ t. folders_in t) c.args.folders.now c.loop-i.i c.args.found.now c.loop-i.found
    c.loop-i-test.false c.loop-i.invariant.0
