-- One path more, and all. For `files_of`.
use Rattle.std.proofs.Common.{◌∙◌, false, refl}
use Rattle.folder_files.proofs.Whole.{none_yet, one_more, all_done}
use Rattle.folder_files.proofs.walk.files_of.Goals as goal

pub loop-i-init : goal.loop-i-init
loop-i-init g c = (
  none_yet (g.F.Folders.tree c.args.tree.now) c.args.all c.args.paths.now
      (record { paths = c.new.result; has_folder = false }) c.new.ensures.items refl,
  refl,
)

pub loop-i-preserved : goal.loop-i-preserved
loop-i-preserved g c = (
  one_more (g.F.Folders.tree c.args.tree.now) (g.F.Folders.tree c.loop-i.tree) c.args.all c.args.paths.now c.loop-i.i
      c.index-paths-i.result c.deref.result.now c.loop-i.files _ c.loop-i.invariant.1 c.loop-i-test.true
      c.index-paths-i.is c.deref.ensures c.loop-i.invariant.0 c.in_ok-add_files.ensures.added,
  c.in_ok-add_files.ensures.same ∙ c.loop-i.invariant.1,
)

pub returns : goal.returns
returns g c =
    all_done (g.F.Folders.tree c.args.tree.now) c.args.all c.args.paths.now c.loop-i.i c.loop-i.files
    c.loop-i-test.false c.loop-i.invariant.0
