-- One name more, and all. For `add_names`.
use Rattle.std.proofs.Common.{◌∙◌, refl}
use Rattle.folder_files.specs.Files.{file_named, folder_named}
use Rattle.folder_files.proofs.Steps.{none_yet, one_more, all_added}
use Rattle.folder_files.proofs.walk.add_names.Goals as goal

pub loop-i-init : goal.loop-i-init
loop-i-init g c = (
  none_yet (g.F.Folders.tree c.args.tree.now) (λ t. file_named t c.args.folder.now)
      (λ t. folder_named t c.args.folder.now) c.args.names.now c.args.found.now,
  refl,
)

pub loop-i-preserved : goal.loop-i-preserved
loop-i-preserved g c = (
  one_more (g.F.Folders.tree c.args.tree.now) (g.F.Folders.tree c.loop-i.tree) (λ t. file_named t c.args.folder.now)
      (λ t. folder_named t c.args.folder.now) c.args.names.now c.loop-i.i c.index-names-i.result c.deref.result.now
      c.args.found.now c.loop-i.found _ c.loop-i.invariant.1 c.loop-i-test.true c.index-names-i.is c.deref.ensures
      c.loop-i.invariant.0 c.in_ok-add_name.ensures.added,
  c.in_ok-add_name.ensures.same ∙ c.loop-i.invariant.1,
)

pub returns-clause-added : goal.returns-clause-added
returns-clause-added g c =
    all_added (g.F.Folders.tree c.args.tree.now) (λ t. file_named t c.args.folder.now)
    (λ t. folder_named t c.args.folder.now) c.args.names.now c.loop-i.i c.args.found.now c.loop-i.found
    c.loop-i-test.false c.loop-i.invariant.0
